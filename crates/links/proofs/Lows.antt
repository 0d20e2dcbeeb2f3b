-- The least number that passes, and the lowest of a class.
use Rattle.std.proofs.Common.{◌≡◌, ℕ, zero, suc, ◌≤◌, Bool, true, false, cond, sym, refl, subst, inl, inr, arith}
use Rattle.std.proofs.lemmas.Bool.{both_ways, cases_lt}
use Rattle.links.specs.Lists.{least}

module _ (p : ℕ → Bool) where
  pub least-le : (n : ℕ) → least p n ≤ n
  least-le zero = omega arith
  least-le (suc n) =
      let h = least-le n in
      elim (p (least p n)) as (λ b. cond b (least p n) (suc n) ≤ suc n) [ true ↦ omega arith | false ↦ omega arith ]

  pub least_finds : (j n : ℕ) → j ≤ n → p j ≡ true → (p (least p n) ≡ true) × (least p n ≤ j)
  least_finds j zero l h =
      let e : j ≡ 0 = omega arith in
      (subst (λ k. p k ≡ true) e h, omega arith)
  least_finds j (suc n) l h = go (λ k. least_finds j n k h) (p (least p n)) refl
    where
      go : (j ≤ n → (p (least p n) ≡ true) × (least p n ≤ j))
          → (b : Bool) → p (least p n) ≡ b → (p (cond b (least p n) (suc n)) ≡ true) × (cond b (least p n) (suc n) ≤ j)
      go ih true t = (t, elim (cases_lt n j) [ inl k ↦ omega (arith, least-le n) | inr k ↦ (ih k).1 ])
      go ih false t =
          elim (cases_lt n j) [
            | inl k ↦ let e : j ≡ suc n = omega arith in (subst (λ k. p k ≡ true) e h, omega arith)
            | inr k ↦ absurd (both_ways (p (least p n)) t (ih k).0)
          ]

-- a test of sameness, symmetric and transitive; the names that are the same as themselves have a lowest
module _ (e : ℕ → ℕ → Bool)
    (turn : (i j : ℕ) → e i j ≡ true → e j i ≡ true)
    (through : (i j k : ℕ) → e i j ≡ true → e j k ≡ true → e i k ≡ true) where
  abbrev low : ℕ → ℕ
  low i = least (λ j. e j i) i

  pub low_in : (i : ℕ) → e i i ≡ true → e (least (λ j. e j i) i) i ≡ true
  low_in i h = (least_finds (λ j. e j i) i i (omega arith) h).0

  pub low_least : (i j : ℕ) → e j i ≡ true → least (λ k. e k i) i ≤ j
  low_least i j h =
      elim (cases_lt i j) [
        | inl k ↦ omega (arith, least-le (λ k. e k i) i)
        | inr k ↦ (least_finds (λ k. e k i) j i k h).1
      ]

  pub low_same : (i j : ℕ) → e i j ≡ true → least (λ k. e k i) i ≡ least (λ k. e k j) j
  low_same i j h =
      let ii = through i j i h (turn i j h) in
      let jj = through j i j (turn i j h) h in
      let a = low_least j (low i) (through (low i) i j (low_in i ii) h) in
      let b = low_least i (low j) (through (low j) j i (low_in j jj) (turn i j h)) in
      omega arith

  pub low_back : (i j : ℕ) → e i i ≡ true → e j j ≡ true → least (λ k. e k i) i ≡ least (λ k. e k j) j → e i j ≡ true
  low_back i j ii jj h =
      through i (low i) j (turn (low i) i (low_in i ii)) (subst (λ k. e k j ≡ true) (sym h) (low_in j jj))
