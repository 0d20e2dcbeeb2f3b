-- `fewest` finds the nearest goal, and no other answer is nearest.
use Rattle.std.proofs.Common.{◌≡◌, ℕ, zero, suc, ◌+◌, ◌<◌, ◌≤◌, Bool, true, false, eqb, ◌⊎◌, List, [], ◌∷◌, length, Some, None, Option, sym, refl, ap, ◌∙◌, subst, inl, inr, arith}
use Rattle.std.specs.List.{list_any}
use Rattle.std.proofs.lemmas.Bool.{both_ways, cases_Bool, cases_lt, cond_both, false≢true, or_left, or_right, or_cases, eq-eqb, eqb-true}
use Rattle.links.specs.Lists.{Member}
use Rattle.links.specs.Chains.{Chain, Linked, has, spread, reached, within, joined, seek, fewest, Nearest}
use Rattle.links.proofs.Lists.{any_from, any_has}
use Rattle.links.proofs.Reach.{Closed, bit, bit_le, bit_mono, has_self, spread_keeps, spread_puts, chain_reached, reached_later, reached_chain, joined_finds, closed_chain}

has_member : (x : ℕ) (ys : List ℕ) → has x ys ≡ true → Member x ys
has_member x [] h = absurd (false≢true h)
has_member x (y ∷ ys) h =
    elim (or_cases (eqb x y) (has x ys) h) [ inl e ↦ inl (sym (eqb-true x y e)) | inr e ↦ inr (has_member x ys e) ]

member_has : (x : ℕ) (ys : List ℕ) → Member x ys → has x ys ≡ true
member_has x [] m = elim m [ ]
member_has x (y ∷ ys) (inl e) = or_left (eqb x y) (has x ys) (eq-eqb x y (sym e))
member_has x (y ∷ ys) (inr m) = or_right (eqb x y) (has x ys) (member_has x ys m)

-- a test that is not passed fails
fails : (b : Bool) → (b ≡ true → ⊥) → b ≡ false
fails b never = elim (cases_Bool b) [ inl t ↦ absurd (never t) | inr f ↦ f ]

-- the first number from d on that passes, or that none up to d + left does
abbrev First : (ℕ → Bool) → ℕ → ℕ → Option ℕ → Type 0
First hit left d None = (k : ℕ) → d ≤ k → k ≤ d + left → hit k ≡ false
First hit left d (Some m) = (hit m ≡ true) × ((k : ℕ) → d ≤ k → k < m → hit k ≡ false)

first_here : (hit : ℕ → Bool) (left d : ℕ) → hit d ≡ true → First hit left d (Some d)
first_here hit left d h = (h, λ k l u. absurd (omega arith))

first_later : (hit : ℕ → Bool) (left d : ℕ) (r : Option ℕ) → hit d ≡ false → First hit left (suc d) r → First hit (suc left) d r
first_later hit left d None h f = λ k l u.
    elim (cases_lt d k) [
      | inl lt ↦ f k (omega arith) (omega arith)
      | inr ge ↦ let e : k ≡ d = omega arith in ap hit e ∙ h
    ]
first_later hit left d (Some m) h f = (
  f.0,
  λ k l u.
      elim (cases_lt d k) [
        | inl lt ↦ f.1 k (omega arith) u
        | inr ge ↦ let e : k ≡ d = omega arith in ap hit e ∙ h
      ],
)

module _ (links : List (ℕ × ℕ)) (goal : ℕ → Bool) (a : ℕ) where
  -- is a goal among the names that at most d links reach?
  abbrev hit : ℕ → Bool
  hit d = list_any goal (reached links d a)

  seek_first : (left d : ℕ) → First hit left d (seek links goal left d (reached links d a))
  seek_first zero d =
      cond_both (hit d) (Some d) None (First hit zero d) (first_here hit zero d)
      (λ f k l u. let e : k ≡ d = omega arith in ap hit e ∙ f)
  seek_first (suc left) d =
      let later : Option ℕ = seek links goal left (suc d) (reached links (suc d) a) in
      cond_both (hit d) (Some d) later (First hit (suc left) d) (first_here hit (suc left) d)
      (λ f. first_later hit left d later f (seek_first left (suc d)))

  has_hit : (d b : ℕ) → has b (reached links d a) ≡ true → goal b ≡ true → hit d ≡ true
  has_hit d b h g = any_from goal (reached links d a) b (has_member b (reached links d a) h) g

  chain_hit : (b n : ℕ) → Chain links a b n → goal b ≡ true → hit n ≡ true
  chain_hit b n ch g = has_hit n b (chain_reached links a b n ch) g

  -- a goal that a chain leads to is hit in as many rounds as there are links
  joined_hit : (b n : ℕ) → Chain links a b n → goal b ≡ true → hit (length links) ≡ true
  unfolding joined within
  joined_hit b n ch g = has_hit (length links) b ((joined_finds links a b).1 (n, ch)) g

  hit_chain : (m : ℕ) → hit m ≡ true → (b : ℕ) × (goal b ≡ true) × ((n : ℕ) × (n ≤ m) × Chain links a b n)
  hit_chain m h =
      let r = any_has goal (reached links m a) h in
      (r.0, r.2, reached_chain links a m r.0 (member_has r.0 (reached links m a) r.1))

  -- the first hit is as many rounds away as a shortest chain has links
  first_nearest : (r : Option ℕ) → First hit (length links) 0 r → Nearest links goal a r
  first_nearest None f = λ b n ch.
      fails (goal b) (λ g. both_ways (hit (length links)) (f (length links) (omega arith) (omega arith)) (joined_hit b n ch g))
  first_nearest (Some m) f = (
    let r = hit_chain m f.0 in
        let n : ℕ = r.2.0 in
        let ch : Chain links a r.0 n = r.2.2 in
        let same : n ≡ m = elim (cases_lt n m) [ inl lt ↦ absurd (least n lt (chain_hit r.0 n ch r.1)) | inr ge ↦ omega (arith, r.2.1) ] in
        (r.0, r.1, subst (Chain links a r.0) same ch),
    λ b n ch g. elim (cases_lt n m) [ inl lt ↦ absurd (least n lt (chain_hit b n ch g)) | inr ge ↦ ge ],
  )
    where
      least : (n : ℕ) → n < m → hit n ≡ true → ⊥
      least n lt h = both_ways (hit n) (f.1 n (omega arith) lt) h

  pub nearest : Nearest links goal a (fewest links goal a)
  unfolding fewest
  nearest = first_nearest (fewest links goal a) (seek_first (length links) 0)

  -- two answers that are both nearest are the same
  nearest_one : (r s : Option ℕ) → Nearest links goal a r → Nearest links goal a s → r ≡ s
  nearest_one None None p q = refl
  nearest_one None (Some m) p q = absurd (both_ways (goal q.0.0) (p q.0.0 m q.0.2) q.0.1)
  nearest_one (Some m) None p q = absurd (both_ways (goal p.0.0) (q p.0.0 m p.0.2) p.0.1)
  nearest_one (Some m) (Some n) p q =
      let up = p.1 q.0.0 n q.0.2 q.0.1 in
      let down = q.1 p.0.0 m p.0.2 p.0.1 in
      let e : m ≡ n = omega arith in
      ap Some e

  -- so whatever is nearest is the fewest
  pub fewest_is : (r : Option ℕ) → Nearest links goal a r → r ≡ fewest links goal a
  fewest_is r p = nearest_one r (fewest links goal a) p nearest

  -- no goal by any chain
  pub fewest_none : ((b n : ℕ) → Chain links a b n → goal b ≡ false) → fewest links goal a ≡ None
  fewest_none never = sym (fewest_is None never)

  -- a chain to a goal bounds the fewest
  pub fewest_some : (b n : ℕ) → Chain links a b n → goal b ≡ true → (m : ℕ) × (fewest links goal a ≡ Some m) × (m ≤ n)
  fewest_some b n ch g = go (fewest links goal a) refl nearest
    where
      go : (r : Option ℕ) → fewest links goal a ≡ r → Nearest links goal a r → (m : ℕ) × (fewest links goal a ≡ Some m) × (m ≤ n)
      go None e p = absurd (both_ways (goal b) (p b n ch) g)
      go (Some m) e p = (m, e, p.1 b n ch g)

  some_nearest : (m : ℕ) → fewest links goal a ≡ Some m → Nearest links goal a (Some m)
  some_nearest m e = subst (Nearest links goal a) e nearest

  -- the fewest is the length of a chain to a goal
  pub some_chain : (m : ℕ) → fewest links goal a ≡ Some m → (b : ℕ) × (goal b ≡ true) × Chain links a b m
  some_chain m e = (some_nearest m e).0

-- how many names below n are in the list
abbrev tally : ℕ → List ℕ → ℕ
tally zero R = 0
tally (suc n) R = bit (has n R) + tally n R

tally_le : (n : ℕ) (R : List ℕ) → tally n R ≤ n
tally_le zero R = omega arith
tally_le (suc n) R = omega (arith, bit_le (has n R), tally_le n R)

tally_some : (n k : ℕ) (R : List ℕ) → k < n → has k R ≡ true → 1 ≤ tally n R
tally_some zero k R l h = absurd (omega arith)
tally_some (suc n) k R l h =
    elim (cases_lt k n) [
      | inl lt ↦ omega (arith, tally_some n k R lt h)
      | inr ge ↦
          let e : k ≡ n = omega arith in
          let one : bit (has n R) ≡ 1 = ap (λ x. bit (has x R)) (sym e) ∙ ap bit h in
          omega arith
    ]

-- from here on Q has all names of R
module _ (R Q : List ℕ) (s : (k : ℕ) → has k R ≡ true → has k Q ≡ true) where
  tally_mono : (n : ℕ) → tally n R ≤ tally n Q
  tally_mono zero = omega arith
  tally_mono (suc n) = omega (arith, bit_mono (has n R) (has n Q) (s n), tally_mono n)

  -- Q has no other name below n
  abbrev Full : ℕ → Type 0
  Full n = (k : ℕ) → k < n → has k Q ≡ true → has k R ≡ true

  full_more : (n : ℕ) → (has n Q ≡ true → has n R ≡ true) → Full n → Full (suc n)
  full_more n here below k l h =
      elim (cases_lt k n) [
        | inl lt ↦ below k lt h
        | inr ge ↦
            let e : k ≡ n = omega arith in
            subst (λ x. has x R ≡ true) (sym e) (here (subst (λ x. has x Q ≡ true) e h))
      ]

  tally_grows : (n : ℕ) → (tally n R < tally n Q) ⊎ Full n
  tally_grows zero = inr (λ k l h. absurd (omega arith))
  tally_grows (suc n) =
      elim (tally_grows n) [
        | inl lt ↦ inl (omega (arith, bit_mono (has n R) (has n Q) (s n)))
        | inr full ↦ go full (has n R) (has n Q) refl refl
      ]
    where
      go : Full n → (x y : Bool) → has n R ≡ x → has n Q ≡ y → (bit x + tally n R < bit y + tally n Q) ⊎ Full (suc n)
      go full false true p q = inl (omega (arith, tally_mono n))
      go full true y p q = inr (full_more n (λ h. p) full)
      go full false false p q = inr (full_more n (λ h. absurd (both_ways (has n Q) q h)) full)

module _ (links : List (ℕ × ℕ)) (goal : ℕ → Bool) (count a m : ℕ) (inside : a < count)
    (ends : (x y : ℕ) → Linked links x y → y < count) (found : fewest links goal a ≡ Some m) where
  -- a round that adds no name has reached all, the goal too
  unfinished : (d : ℕ) → d < m → Closed links (reached links d a) → ⊥
  unfinished d l closed =
      let best = some_nearest links goal a m found in
      let b = best.0.0 in
      let start = reached_later links a a 0 d (omega arith) (has_self a []) in
      let early = reached_chain links a d b (closed_chain links (reached links d a) a b m closed start best.0.2) in
      omega (arith, early.1, best.1 b early.0 early.2 best.0.1)

  -- so each round before the goal adds one
  each_adds : (d : ℕ) → d ≤ m → d < tally count (reached links d a)
  each_adds zero l = omega (arith, tally_some count a (a ∷ []) inside (has_self a []))
  each_adds (suc d) l =
      let R = reached links d a in
      elim (tally_grows R (spread links R) (spread_keeps links R) count) [
        | inl more ↦ omega (arith, each_adds d (omega arith))
        | inr full ↦ absurd (unfinished d l (λ b c k h. full c (ends b c k) (spread_puts links R b c h k)))
      ]

  pub fewest_below : m < count
  fewest_below = omega (arith, each_adds m (omega arith), tally_le count (reached links m a))

-- a shortest chain between names below a count has fewer links than that
pub short : (links : List (ℕ × ℕ)) (count a b m : ℕ) → a < count → ((x y : ℕ) → Linked links x y → y < count) → fewest links (λ y. eqb y b) a ≡ Some m → m < count
short links count a b m inside ends found = fewest_below links (λ y. eqb y b) count a m inside ends found
