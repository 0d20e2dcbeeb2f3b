-- `within` and `joined` find just the chains.
use Rattle.std.proofs.Common.{◌≡◌, ℕ, zero, suc, ◌+◌, ◌<◌, ◌≤◌, Bool, true, false, cond, not, ◌&&◌, eqb, ◌⊎◌, ◌↔◌, List, [], ◌∷◌, length, sym, refl, ap, ◌∙◌, subst, inl, inr, add-zero, add-suc, one-add, arith}
use Rattle.std.proofs.lemmas.Bool.{both_ways, cases_lt, false≢true, or_left, or_right, or_cases, and_from, and_parts, eq-eqb, eqb-true}
use Rattle.links.specs.Lists.{Member}
use Rattle.links.specs.Chains.{Chain, none, next, Joins, Linked, has, add_if, spread, reached, within, joined}

abbrev Links : Type 0
Links = List (ℕ × ℕ)

pub has_self : (x : ℕ) (ys : List ℕ) → has x (x ∷ ys) ≡ true
has_self x ys = or_left (eqb x x) (has x ys) (eq-eqb x x refl)

-- what `add_if` holds
add_keeps : (c x : ℕ) (b : Bool) (ys : List ℕ) → has c ys ≡ true → has c (add_if b x ys) ≡ true
add_keeps c x b ys h =
    elim (b && not (has x ys)) as (λ t. has c (cond t (x ∷ ys) ys) ≡ true) [
      | true ↦ or_right (eqb c x) (has c ys) h
      | false ↦ h
    ]

add_puts : (x : ℕ) (b : Bool) (ys : List ℕ) → b ≡ true → has x (add_if b x ys) ≡ true
add_puts x false ys h = absurd (false≢true h)
add_puts x true ys h = go (has x ys) refl
  where
    go : (t : Bool) → has x ys ≡ t → has x (cond (not t) (x ∷ ys) ys) ≡ true
    go true e = e
    go false e = has_self x ys

add_cases : (c x : ℕ) (b : Bool) (ys : List ℕ) → has c (add_if b x ys) ≡ true → (has c ys ≡ true) ⊎ ((b ≡ true) × (c ≡ x))
add_cases c x false ys h = inl h
add_cases c x true ys h = go (has x ys) h
  where
    go : (t : Bool) → has c (cond (not t) (x ∷ ys) ys) ≡ true → (has c ys ≡ true) ⊎ ((true ≡ true) × (c ≡ x))
    go true k = inl k
    go false k = elim (or_cases (eqb c x) (has c ys) k) [ inl e ↦ inr (refl, eqb-true c x e) | inr e ↦ inl e ]

-- the list of `spread` below its first link
abbrev inner : ℕ × ℕ → Links → List ℕ → List ℕ
inner l ls old = add_if (has l.1 old) l.0 (spread ls old)

-- what `spread` holds
pub spread_keeps : (ls : Links) (old : List ℕ) (c : ℕ) → has c old ≡ true → has c (spread ls old) ≡ true
spread_keeps [] old c h = h
spread_keeps (l ∷ ls) old c h =
    add_keeps c l.1 (has l.0 old) (inner l ls old)
    (add_keeps c l.0 (has l.1 old) (spread ls old) (spread_keeps ls old c h))

spread_more : (l : ℕ × ℕ) (ls : Links) (old : List ℕ) (c : ℕ) → has c (spread ls old) ≡ true → has c (spread (l ∷ ls) old) ≡ true
spread_more l ls old c h =
    add_keeps c l.1 (has l.0 old) (inner l ls old)
    (add_keeps c l.0 (has l.1 old) (spread ls old) h)

pub spread_puts : (ls : Links) (old : List ℕ) (b c : ℕ) → has b old ≡ true → Linked ls b c → has c (spread ls old) ≡ true
spread_puts [] old b c h (inl m) = elim m [ ]
spread_puts [] old b c h (inr m) = elim m [ ]
spread_puts (l ∷ ls) old b c h (inl (inl e)) =
    subst (λ x. has x (spread (l ∷ ls) old) ≡ true) (ap (λ (p : ℕ × ℕ). p.1) e)
    (add_puts l.1 (has l.0 old) (inner l ls old)
    (subst (λ x. has x old ≡ true) (sym (ap (λ (p : ℕ × ℕ). p.0) e)) h))
spread_puts (l ∷ ls) old b c h (inl (inr m)) = spread_more l ls old c (spread_puts ls old b c h (inl m))
spread_puts (l ∷ ls) old b c h (inr (inl e)) =
    subst (λ x. has x (spread (l ∷ ls) old) ≡ true) (ap (λ (p : ℕ × ℕ). p.0) e)
    (add_keeps l.0 l.1 (has l.0 old) (inner l ls old)
    (add_puts l.0 (has l.1 old) (spread ls old)
    (subst (λ x. has x old ≡ true) (sym (ap (λ (p : ℕ × ℕ). p.1) e)) h)))
spread_puts (l ∷ ls) old b c h (inr (inr m)) = spread_more l ls old c (spread_puts ls old b c h (inr m))

abbrev Near : Links → List ℕ → ℕ → Type 0
Near ls old c = (b : ℕ) × (has b old ≡ true) × Linked ls b c

pub linked_more : (l : ℕ × ℕ) (ls : Links) (b c : ℕ) → Linked ls b c → Linked (l ∷ ls) b c
linked_more l ls b c (inl m) = inl (inr m)
linked_more l ls b c (inr m) = inr (inr m)

spread_cases : (ls : Links) (old : List ℕ) (c : ℕ) → has c (spread ls old) ≡ true → (has c old ≡ true) ⊎ Near ls old c
spread_cases [] old c h = inl h
spread_cases (l ∷ ls) old c h =
    elim (add_cases c l.1 (has l.0 old) (inner l ls old) h) [
      | inr k ↦ inr (l.0, k.0, inl (inl (λ i. (l.0, sym k.1 i))))
      | inl k ↦
          elim (add_cases c l.0 (has l.1 old) (spread ls old) k) [
            | inr k ↦ inr (l.1, k.0, inr (inl (λ i. (sym k.1 i, l.1))))
            | inl k ↦
                elim (spread_cases ls old c k) [
                  | inl e ↦ inl e
                  | inr n ↦ inr (n.0, n.1, linked_more l ls n.0 c n.2)
                ]
          ]
    ]

-- chains, one after the other and turned round
pub chain_join : (L : Links) (a b c n m : ℕ) → Chain L a b n → Chain L b c m → Chain L a c (n + m)
chain_join L a b c n m p none = subst (Chain L a c) (sym (add-zero n)) p
chain_join L a b c n m p (next {b = x} {n = k} q l) = subst (Chain L a c) (sym (add-suc n k)) (next (chain_join L a b x n k p q) l)

linked_turn : (L : Links) (b c : ℕ) → Linked L b c → Linked L c b
linked_turn L b c (inl m) = inr m
linked_turn L b c (inr m) = inl m

pub chain_turn : (L : Links) (a b n : ℕ) → Chain L a b n → Chain L b a n
chain_turn L a b n none = none
chain_turn L a b n (next {b = x} {n = k} p l) = subst (Chain L b a) (one-add k) (chain_join L b x a 1 k (next none (linked_turn L x b l)) (chain_turn L a x k p))

-- rounds and chains
pub chain_reached : (L : Links) (a b n : ℕ) → Chain L a b n → has b (reached L n a) ≡ true
chain_reached L a b n none = has_self a []
chain_reached L a b n (next {b = x} {n = m} p l) = spread_puts L (reached L m a) x b (chain_reached L a x m p) l

pub reached_later : (L : Links) (a b n d : ℕ) → n ≤ d → has b (reached L n a) ≡ true → has b (reached L d a) ≡ true
reached_later L a b n zero l h = let e : n ≡ 0 = omega arith in subst (λ k. has b (reached L k a) ≡ true) e h
reached_later L a b n (suc d) l h =
    elim (cases_lt d n) [
      | inl k ↦ let e : n ≡ suc d = omega arith in subst (λ k. has b (reached L k a) ≡ true) e h
      | inr k ↦ spread_keeps L (reached L d a) b (reached_later L a b n d k h)
    ]

abbrev pub Short : Links → ℕ → ℕ → ℕ → Type 0
Short L a d b = (n : ℕ) × (n ≤ d) × Chain L a b n

pub reached_chain : (L : Links) (a d b : ℕ) → has b (reached L d a) ≡ true → Short L a d b
reached_chain L a zero b h =
    elim (or_cases (eqb b a) false h) [
      | inl e ↦ (0, omega arith, subst (λ x. Chain L a x 0) (sym (eqb-true b a e)) none)
      | inr e ↦ absurd (false≢true e)
    ]
reached_chain L a (suc d) b h =
    elim (spread_cases L (reached L d a) b h) [
      | inl k ↦ let r = reached_chain L a d b k in (r.0, omega arith, r.2)
      | inr k ↦
          let r = reached_chain L a d k.0 k.1 in
          (suc r.0, omega arith, next r.2 k.2)
    ]

-- as many rounds as links reach all
abbrev pub Closed : Links → List ℕ → Type 0
Closed L R = (b c : ℕ) → Linked L b c → has b R ≡ true → has c R ≡ true

abbrev pub bit : Bool → ℕ
bit true = 1
bit false = 0

-- how many links have both ends in R
abbrev inside : Links → List ℕ → ℕ
inside [] R = 0
inside (l ∷ ls) R = bit (has l.0 R && has l.1 R) + inside ls R

pub bit_le : (b : Bool) → bit b ≤ 1
bit_le true = omega arith
bit_le false = omega arith

pub bit_mono : (b c : Bool) → (b ≡ true → c ≡ true) → bit b ≤ bit c
bit_mono false c h = omega arith
bit_mono true c h = let e = h refl in rw e (omega arith)

inside_le : (L : Links) (R : List ℕ) → inside L R ≤ length L
inside_le [] R = omega arith
inside_le (l ∷ ls) R = omega (arith, bit_le (has l.0 R && has l.1 R), inside_le ls R)

abbrev Below : List ℕ → List ℕ → Type 0
Below R Q = (c : ℕ) → has c R ≡ true → has c Q ≡ true

inside_bit : (l : ℕ × ℕ) (R Q : List ℕ) → Below R Q → bit (has l.0 R && has l.1 R) ≤ bit (has l.0 Q && has l.1 Q)
inside_bit l R Q s =
    bit_mono (has l.0 R && has l.1 R) (has l.0 Q && has l.1 Q) (λ h.
    let k = and_parts (has l.0 R) (has l.1 R) h in
    and_from (has l.0 Q) (has l.1 Q) (s l.0 k.0) (s l.1 k.1))

inside_mono : (L : Links) (R Q : List ℕ) → Below R Q → inside L R ≤ inside L Q
inside_mono [] R Q s = omega arith
inside_mono (l ∷ ls) R Q s = omega (arith, inside_bit l R Q s, inside_mono ls R Q s)

closed_none : (R : List ℕ) → Closed [] R
closed_none R b c (inl m) h = elim m [ ]
closed_none R b c (inr m) h = elim m [ ]

closed_more : (l : ℕ × ℕ) (ls : Links) (R : List ℕ)
    → (has l.0 R ≡ true → has l.1 R ≡ true) → (has l.1 R ≡ true → has l.0 R ≡ true)
    → Closed ls R → Closed (l ∷ ls) R
closed_more l ls R f g cl b c (inl (inl e)) h =
    subst (λ (p : ℕ × ℕ). has p.0 R ≡ true → has p.1 R ≡ true) e f h
closed_more l ls R f g cl b c (inl (inr m)) h = cl b c (inl m) h
closed_more l ls R f g cl b c (inr (inl e)) h =
    subst (λ (p : ℕ × ℕ). has p.1 R ≡ true → has p.0 R ≡ true) e g h
closed_more l ls R f g cl b c (inr (inr m)) h = cl b c (inr m) h

bit_one : (b : Bool) → 1 ≤ bit b → b ≡ true
bit_one true h = refl
bit_one false h = absurd (omega arith)

-- where all links are inside, the names are closed
inside_all : (L : Links) (R : List ℕ) → length L ≤ inside L R → Closed L R
inside_all [] R h = closed_none R
inside_all (l ∷ ls) R h =
    let both = has l.0 R && has l.1 R in
    let k = and_parts (has l.0 R) (has l.1 R) (bit_one both (omega (arith, inside_le ls R))) in
    closed_more l ls R (λ _. k.1) (λ _. k.0) (inside_all ls R (omega (arith, bit_le both)))

-- names that a link leads out of have fewer links inside than what one more link reaches
grows : (L : Links) (R Q : List ℕ) → Below R Q → ((b c : ℕ) → Linked L b c → has b R ≡ true → has c Q ≡ true)
    → Closed L R ⊎ (inside L R < inside L Q)
grows [] R Q s t = inl (closed_none R)
grows (l ∷ ls) R Q s t =
    elim (grows ls R Q s (λ b c m. t b c (linked_more l ls b c m))) [
      | inr k ↦ inr (omega (arith, inside_bit l R Q s))
      | inl cl ↦ go cl (has l.0 R) (has l.1 R) refl refl
    ]
  where
    full : has l.0 Q ≡ true → has l.1 Q ≡ true → bit (has l.0 Q && has l.1 Q) ≡ 1
    full p q = ap bit (and_from (has l.0 Q) (has l.1 Q) p q)

    go : Closed ls R → (x y : Bool) → has l.0 R ≡ x → has l.1 R ≡ y
        → Closed (l ∷ ls) R ⊎ (bit (x && y) + inside ls R < inside (l ∷ ls) Q)
    go cl true true p q = inl (closed_more l ls R (λ _. q) (λ _. p) cl)
    go cl false false p q =
        inl (closed_more l ls R (λ h. absurd (both_ways (has l.0 R) p h)) (λ h. absurd (both_ways (has l.1 R) q h)) cl)
    go cl true false p q =
        inr (omega (arith, full (s l.0 p) (t l.0 l.1 (inl (inl refl)) p), inside_mono ls R Q s))
    go cl false true p q =
        inr (omega (arith, full (t l.1 l.0 (inr (inl refl)) q) (s l.1 q), inside_mono ls R Q s))

closed_spread : (L : Links) (R : List ℕ) → Closed L R → Closed L (spread L R)
closed_spread L R cl b c k h =
    let old : has b R ≡ true = elim (spread_cases L R b h) [ inl e ↦ e | inr n ↦ cl n.0 b n.2 n.1 ] in
    spread_keeps L R c (cl b c k old)

saturates : (L : Links) (a d : ℕ) → Closed L (reached L d a) ⊎ (d ≤ inside L (reached L d a))
saturates L a zero = inr (omega arith)
saturates L a (suc d) =
    let R = reached L d a in
    elim (saturates L a d) [
      | inl k ↦ inl (closed_spread L R k)
      | inr k ↦
          elim (grows L R (spread L R) (spread_keeps L R) (λ b c m h. spread_puts L R b c h m)) [
            | inl k ↦ inl (closed_spread L R k)
            | inr l ↦ inr (omega arith)
          ]
    ]

all_reached : (L : Links) (a : ℕ) → Closed L (reached L (length L) a)
all_reached L a =
    elim (saturates L a (length L)) [ inl k ↦ k | inr k ↦ inside_all L (reached L (length L) a) k ]

pub closed_chain : (L : Links) (R : List ℕ) (a b n : ℕ) → Closed L R → has a R ≡ true → Chain L a b n → has b R ≡ true
closed_chain L R a b n cl h none = h
closed_chain L R a b n cl h (next {b = x} p l) = cl x b l (closed_chain L R a x _ cl h p)

pub within_finds : (L : Links) (d a b : ℕ) → (within L d a b ≡ true) ↔ ((n : ℕ) × (n ≤ d) × Chain L a b n)
unfolding within
within_finds L d a b =
    (λ h. reached_chain L a d b h, λ r. reached_later L a b r.0 d r.1 (chain_reached L a b r.0 r.2))

pub joined_finds : (L : Links) (a b : ℕ) → (joined L a b ≡ true) ↔ Joins L a b
unfolding joined within
joined_finds L a b = (
  λ h. let r = reached_chain L a (length L) b h in (r.0, r.2),
  λ r. closed_chain L (reached L (length L) a) a b r.0 (all_reached L a)
      (reached_later L a a 0 (length L) (omega arith) (has_self a [])) r.1,
)

pub joined_self : (L : Links) (a : ℕ) → joined L a a ≡ true
joined_self L a = (joined_finds L a a).1 (0, none)

pub joined_turn : (L : Links) (a b : ℕ) → joined L a b ≡ true → joined L b a ≡ true
joined_turn L a b h = let r = (joined_finds L a b).0 h in (joined_finds L b a).1 (r.0, chain_turn L a b r.0 r.1)

pub joined_through : (L : Links) (a b c : ℕ) → joined L a b ≡ true → joined L b c ≡ true → joined L a c ≡ true
joined_through L a b c h k =
    let r = (joined_finds L a b).0 h in
    let q = (joined_finds L b c).0 k in
    (joined_finds L a c).1 (r.0 + q.0, chain_join L a b c r.0 q.0 r.1 q.1)

pub joined_link : (L : Links) (a b : ℕ) → Linked L a b → joined L a b ≡ true
joined_link L a b l = (joined_finds L a b).1 (1, next none l)

-- what each link keeps, a chain keeps
pub chain_keeps : (g : ℕ → ℕ) (L : Links) → ((p : ℕ × ℕ) → Member p L → g p.0 ≡ g p.1) → (a b n : ℕ) → Chain L a b n → g a ≡ g b
chain_keeps g L h a b n none = refl
chain_keeps g L h a b n (next {b = x} c (inl m)) = chain_keeps g L h a x _ c ∙ h (x, b) m
chain_keeps g L h a b n (next {b = x} c (inr m)) = chain_keeps g L h a x _ c ∙ sym (h (b, x) m)
