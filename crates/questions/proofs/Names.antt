-- The lowest name of a class, where there is one.
use Rattle.std.proofs.Common.{◌≡◌, ℕ, ◌<◌, ltb, Some, None, sym, ◌∙◌, inl, inr}
use Rattle.std.proofs.lemmas.Bool.{cases_lt, cond-false, cond-true, le-ltb, lt-ltb}
use Rattle.arrangement.specs.Meaning.{Meaning, lowest}
use Rattle.arrangement.specs.Stored.{lowest_of}
use Rattle.meaning.proofs.Lists.{none_some, some_inj}

module _ (m : Meaning) (i : ℕ) where
  pub name_lowest : i < m.size → lowest_of m i ≡ Some (lowest m i)
  name_lowest l = cond-true (ltb i m.size) (Some (lowest m i)) None (lt-ltb i m.size l)

  pub lowest_name : (c : ℕ) → Some c ≡ lowest_of m i → (i < m.size) × (c ≡ lowest m i)
  lowest_name c h =
      elim (cases_lt i m.size) [
        | inl l ↦ (l, some_inj (h ∙ name_lowest l))
        | inr l ↦ absurd (none_some (sym (h ∙ cond-false (ltb i m.size) (Some (lowest m i)) None (le-ltb i m.size l))))
      ]
