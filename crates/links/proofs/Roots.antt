-- Roots, and what one more link does to them.
use Rattle.std.proofs.Common.{◌≡◌, ℕ, ◌<◌, ◌≤◌, min, max, true, cond, eqb, ◌⊎◌, List, [], ◌∷◌, ◌++◌, length, get_or, sym, refl, ap, ◌∙◌, subst, inl, inr, arith}
use Rattle.std.proofs.lemmas.List.{get_or_default, get_or-map}
use Rattle.std.proofs.lemmas.Bool.{cases_eq, cases_lt, eq-eqb, ne_eqb}
use Rattle.links.specs.Lists.{Member}
use Rattle.links.specs.Chains.{Chain, none, next, joined, lowest_joined}
use Rattle.links.specs.Groups.{Roots, label_for, merged, relabelled, root_of}
use Rattle.links.proofs.Lists.{member_cases, member_left, member_right}
use Rattle.links.proofs.Lows.{least-le, low_back, low_in, low_least, low_same}
use Rattle.links.proofs.Reach.{chain_keeps, joined_finds, joined_link, joined_self, joined_through, joined_turn}

abbrev Links : Type 0
Links = List (ℕ × ℕ)

module _ (L : Links) where
  pub lowest-le : (t : ℕ) → lowest_joined L t ≤ t
  unfolding lowest_joined
  lowest-le t = least-le (λ u. joined L u t) t

  pub lowest_in : (t : ℕ) → joined L (lowest_joined L t) t ≡ true
  unfolding lowest_joined
  lowest_in t = low_in (joined L) (joined_turn L) (joined_through L) t (joined_self L t)

  pub lowest_least : (t u : ℕ) → joined L u t ≡ true → lowest_joined L t ≤ u
  unfolding lowest_joined
  lowest_least t u h = low_least (joined L) (joined_turn L) (joined_through L) t u h

  pub lowest_same : (a b : ℕ) → joined L a b ≡ true → lowest_joined L a ≡ lowest_joined L b
  unfolding lowest_joined
  lowest_same a b h = low_same (joined L) (joined_turn L) (joined_through L) a b h

  pub lowest_back : (a b : ℕ) → lowest_joined L a ≡ lowest_joined L b → joined L a b ≡ true
  unfolding lowest_joined
  lowest_back a b h = low_back (joined L) (joined_turn L) (joined_through L) a b (joined_self L a) (joined_self L b) h

  pub lowest_only : (t r : ℕ) → joined L r t ≡ true → ((u : ℕ) → joined L u t ≡ true → r ≤ u) → r ≡ lowest_joined L t
  lowest_only t r h k = omega (arith, lowest_least t r h, k (lowest_joined L t) (lowest_in t))

-- with no links each name is alone
pub alone : (t : ℕ) → t ≡ lowest_joined [] t
alone t =
    lowest_only [] t t (joined_self [] t) (λ u h.
    let r = (joined_finds [] u t).0 h in
    omega (arith, chain_keeps (λ n. n) [] (λ p m. absurd m) u t r.0 r.1))

-- a link more keeps what was joined
chain_more : (L K : Links) → ((p : ℕ × ℕ) → Member p L → Member p K) → (a b n : ℕ) → Chain L a b n → Chain K a b n
chain_more L K s a b n none = none
chain_more L K s a b n (next {b = x} c (inl m)) = next (chain_more L K s a x _ c) (inl (s (x, b) m))
chain_more L K s a b n (next {b = x} c (inr m)) = next (chain_more L K s a x _ c) (inr (s (b, x) m))

joined_more : (L K : Links) → ((p : ℕ × ℕ) → Member p L → Member p K) → (a b : ℕ) → joined L a b ≡ true → joined K a b ≡ true
joined_more L K s a b h = let r = (joined_finds L a b).0 h in (joined_finds K a b).1 (r.0, chain_more L K s a b r.0 r.1)

-- one more link between x and y, whose roots are lo and hi in some order
module _ (L : Links) (x y lo hi : ℕ) (order : lo ≤ hi) (ends : ((lowest_joined L x ≡ lo) × (lowest_joined L y ≡ hi)) ⊎ ((lowest_joined L x ≡ hi) × (lowest_joined L y ≡ lo))) where
  abbrev K : Links
  K = L ++ ((x, y) ∷ [])

  abbrev new : ℕ → ℕ
  new t = cond (eqb (lowest_joined L t) hi) lo (lowest_joined L t)

  new_hi : (t : ℕ) → lowest_joined L t ≡ hi → new t ≡ lo
  new_hi t e = ap (λ b. cond b lo (lowest_joined L t)) (eq-eqb (lowest_joined L t) hi e)

  new_other : (t : ℕ) → (lowest_joined L t ≡ hi → ⊥) → new t ≡ lowest_joined L t
  new_other t e = ap (λ b. cond b lo (lowest_joined L t)) (ne_eqb (lowest_joined L t) hi e)

  new_lo : (t : ℕ) → lowest_joined L t ≡ lo → new t ≡ lo
  new_lo t e = elim (cases_eq (lowest_joined L t) hi) [ inl k ↦ new_hi t k | inr k ↦ new_other t k ∙ e ]

  new_le : (t : ℕ) → new t ≤ t
  new_le t =
      elim (cases_eq (lowest_joined L t) hi) [
        | inl k ↦ omega (arith, new_hi t k, lowest-le L t)
        | inr k ↦ omega (arith, new_other t k, lowest-le L t)
      ]

  in_more : (a b : ℕ) → joined L a b ≡ true → joined K a b ≡ true
  in_more = joined_more L K (λ p m. member_left p L ((x, y) ∷ []) m)

  new_link : joined K x y ≡ true
  new_link = joined_link K x y (inl (member_right (x, y) L ((x, y) ∷ []) (inl refl)))

  ends_same : new x ≡ new y
  ends_same =
      elim ends [
        | inl e ↦ new_lo x e.0 ∙ sym (new_hi y e.1)
        | inr e ↦ new_hi x e.0 ∙ sym (new_lo y e.1)
      ]

  keeps : (p : ℕ × ℕ) → Member p K → new p.0 ≡ new p.1
  keeps p m = go (member_cases p L ((x, y) ∷ []) m)
    where
      go : Member p L ⊎ Member p ((x, y) ∷ []) → new p.0 ≡ new p.1
      go (inl k) = ap (λ r. cond (eqb r hi) lo r) (lowest_same L p.0 p.1 (joined_link L p.0 p.1 (inl k)))
      go (inr (inl e)) = subst (λ (p : ℕ × ℕ). new p.0 ≡ new p.1) e ends_same
      go (inr (inr k)) = absurd k

  root_in : (t r : ℕ) → lowest_joined L t ≡ r → joined K r t ≡ true
  root_in t r e = subst (λ r. joined K r t ≡ true) e (in_more (lowest_joined L t) t (lowest_in L t))

  -- the lower root is joined to the higher
  across : joined K lo hi ≡ true
  across =
      elim ends [
        | inl e ↦ joined_through K lo x hi (root_in x lo e.0) (joined_through K x y hi new_link (joined_turn K hi y (root_in y hi e.1)))
        | inr e ↦ joined_through K lo y hi (root_in y lo e.1) (joined_through K y x hi (joined_turn K x y new_link) (joined_turn K hi x (root_in x hi e.0)))
      ]

  new_in : (t : ℕ) → joined K (new t) t ≡ true
  new_in t =
      elim (cases_eq (lowest_joined L t) hi) [
        | inl k ↦ subst (λ r. joined K r t ≡ true) (sym (new_hi t k)) (joined_through K lo hi t across (root_in t hi k))
        | inr k ↦ subst (λ r. joined K r t ≡ true) (sym (new_other t k)) (root_in t (lowest_joined L t) refl)
      ]

  pub lowest_is_joined : (t : ℕ) → new t ≡ lowest_joined K t
  lowest_is_joined t =
      lowest_only K t (new t) (new_in t) (λ u h.
      let r = (joined_finds K u t).0 h in
      omega (arith, chain_keeps new K keeps u t r.0 r.1, new_le u))

-- the table of roots, before and after two names are joined
module _ (root : List ℕ) (long : length root ≡ 128) where
  pub root_is : (t : ℕ) → t < 128 → root_of root t ≡ get_or root t 0
  root_is t within = get_or_default root t t 0 (omega arith)

  relabelled_at : (old new t : ℕ) → t < 128 → get_or (relabelled old new root) t 0 ≡ label_for old new (get_or root t 0)
  relabelled_at old new t within = get_or-map (label_for old new) root t 0 0 (omega arith)

  -- a lower label keeps a table below its names
  pub relabelled_down : (old new : ℕ) → new ≤ old → ((t : ℕ) → t < 128 → get_or root t 0 ≤ t) → (t : ℕ) → t < 128 → get_or (relabelled old new root) t 0 ≤ t
  relabelled_down old new order down t within =
      let at = relabelled_at old new t within in
      elim (cases_eq (get_or root t 0) old) [
        | inl e ↦ omega (arith, at, ap (λ b. cond b new (get_or root t 0)) (eq-eqb (get_or root t 0) old e), down t within)
        | inr ne ↦ omega (arith, at, ap (λ b. cond b new (get_or root t 0)) (ne_eqb (get_or root t 0) old ne), down t within)
      ]

  pub roots_merged : (L : Links) (x y : ℕ) → x < 128 → y < 128 → Roots L root → Roots (L ++ ((x, y) ∷ [])) (merged root x y)
  roots_merged L x y a b roots =
      let p : lowest_joined L x ≡ root_of root x = sym (root_is x a ∙ roots.low x a) in
      let q : lowest_joined L y ≡ root_of root y = sym (root_is y b ∙ roots.low y b) in
      let lo = min (root_of root x) (root_of root y) in
      let hi = max (root_of root x) (root_of root y) in
      let ends : ((lowest_joined L x ≡ lo) × (lowest_joined L y ≡ hi)) ⊎ ((lowest_joined L x ≡ hi) × (lowest_joined L y ≡ lo)) = elim (cases_lt (root_of root x) (root_of root y)) [ inl k ↦ inl (omega arith, omega arith) | inr k ↦ inr (omega arith, omega arith) ] in
      record { low = λ t within. relabelled_at hi lo t within ∙ ap (label_for hi lo) (roots.low t within) ∙ lowest_is_joined L x y lo hi (omega arith) ends t }
