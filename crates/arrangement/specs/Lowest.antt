-- The lowest name that is the same.
use Rattle.std.specs.Prelude.{◌≡◌, ℕ, zero, suc, ◌<◌, ◌≤◌, Bool, true, false, cond, ◌⊎◌, refl}
use Rattle.std.proofs.Common.{inl, inr, arith}
use Rattle.std.proofs.lemmas.Bool.{both_ways, cases_lt}
use Rattle.links.specs.Lists.{least}
use Rattle.links.proofs.Lows.{least-le, least_finds, low_in, low_least, low_same, low_back}
use Rattle.arrangement.specs.Meaning.{Meaning, Lawful, lowest, same}

module _ (m : Meaning) (law : Lawful m) where
  pub lowest-le : (i : ℕ) → lowest m i ≤ i
  unfolding lowest
  lowest-le i = least-le (λ j. same m j i) i

  pub lowest_in : (i : ℕ) → i < m.size → same m (lowest m i) i ≡ true
  unfolding lowest
  lowest_in i l = low_in (same m) law.back law.through i (law.itself i l)

  pub lowest_least : (i j : ℕ) → same m j i ≡ true → lowest m i ≤ j
  unfolding lowest
  lowest_least i j h = low_least (same m) law.back law.through i j h

  pub lowest_same : (i j : ℕ) → same m i j ≡ true → lowest m i ≡ lowest m j
  unfolding lowest
  lowest_same i j h = low_same (same m) law.back law.through i j h

  pub lowest_back : (i j : ℕ) → i < m.size → j < m.size → lowest m i ≡ lowest m j → same m i j ≡ true
  unfolding lowest
  lowest_back i j l k h = low_back (same m) law.back law.through i j (law.itself i l) (law.itself j k) h

  pub lowest_twice : (i : ℕ) → i < m.size → lowest m (lowest m i) ≡ lowest m i
  lowest_twice i l = lowest_same (lowest m i) i (lowest_in i l)

-- the first number that passes is the least, and the last one where none does
module _ (p : ℕ → Bool) where
  passes_or_last : (n : ℕ) → (p (least p n) ≡ true) ⊎ (least p n ≡ n)
  passes_or_last zero = inr refl
  passes_or_last (suc n) = go (p (least p n)) refl
    where
      go : (b : Bool) → p (least p n) ≡ b → (p (cond b (least p n) (suc n)) ≡ true) ⊎ (cond b (least p n) (suc n) ≡ suc n)
      go true e = inl e
      go false e = inr refl

  first_least : (j n : ℕ) → j ≤ n → ((k : ℕ) → k < j → p k ≡ false) → (p j ≡ true) ⊎ (j ≡ n) → j ≡ least p n
  first_least j n l none found =
      elim (cases_lt (least p n) j) [
        | inl k ↦
            elim (passes_or_last n) [
              | inl h ↦ absurd (both_ways (p (least p n)) (none (least p n) k) h)
              | inr h ↦ absurd (omega arith)
            ]
        | inr k ↦ elim found [ inl h ↦ omega (arith, (least_finds p j n l h).1) | inr h ↦ omega (arith, least-le p n) ]
      ]

pub lowest_is : (m : Meaning) (j i : ℕ) → j ≤ i → ((k : ℕ) → k < j → same m k i ≡ false) → (same m j i ≡ true) ⊎ (j ≡ i) → j ≡ lowest m i
unfolding lowest
lowest_is m j i = first_least (λ k. same m k i) j i
