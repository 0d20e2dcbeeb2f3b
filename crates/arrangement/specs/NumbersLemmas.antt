-- A list of numbers, of which equal ones mean the same, makes a lawful arrangement.
use Rattle.std.specs.Prelude.{◌≡◌, ℕ, ◌≤◌, false, List, length, is_some, Some, None, Option, nat_eq, slice_get, slice_index, refl}
use Rattle.std.proofs.Common.{◌∙◌, sym, ap, ap₂, inl, inr}
use Rattle.std.proofs.lemmas.Bool.{cases_lt}
use Rattle.std.proofs.lemmas.Option.{slice_get-get_or, slice_get_past}
use Rattle.bounded.specs.Laws.{few}
use Rattle.arrangement.specs.declared.assigned.Assigned.{Assigned}
use Rattle.arrangement.specs.Meaning.{Lawful, same}
use Rattle.arrangement.specs.Numbers.{assigned_meaning, both_equal, numbers_of}
use Rattle.arrangement.specs.Laws.{lawful_by, left_beyond, right_beyond, same_within}

pub listed_lawful : (numbers : List ℕ) → length numbers ≤ 64 → Lawful (assigned_meaning numbers)
listed_lawful numbers small = lawful_by (length numbers) (λ i. slice_index numbers i) small

pub lawful : (x : Assigned) → Lawful (assigned_meaning (numbers_of x))
lawful x = listed_lawful (numbers_of x) (few x.numbers)

-- nothing equals what is not there
none_right : (o : Option ℕ) → both_equal nat_eq o None ≡ false
none_right None = refl
none_right (Some x) = refl

none_left : (o p : Option ℕ) → is_some o ≡ false → both_equal nat_eq o p ≡ false
none_left None p none = refl
none_left (Some x) p none = absurd (cc)

-- names are the same exactly where there are equal numbers for both
module _ (numbers : List ℕ) (i j : ℕ) where
  pub equal_is_same : both_equal nat_eq (slice_get numbers i) (slice_get numbers j) ≡ same (assigned_meaning numbers) i j
  equal_is_same =
      let m = assigned_meaning numbers in
      elim (cases_lt i (length numbers)) [
        | inl low ↦ elim (cases_lt j (length numbers)) [
          | inl low' ↦ ap₂ (both_equal nat_eq) (slice_get-get_or numbers i 0 low) (slice_get-get_or numbers j 0 low') ∙ same_within m i j low low'
          | inr past ↦ ap (both_equal nat_eq (slice_get numbers i)) (slice_get_past numbers j past) ∙ none_right (slice_get numbers i) ∙ right_beyond m i j past
        ]
        | inr past ↦ ap (λ o. both_equal nat_eq o (slice_get numbers j)) (slice_get_past numbers i past) ∙ left_beyond m i j past
      ]

  -- and so never where there is no number for the first
  pub none_is_not_same : is_some (slice_get numbers i) ≡ false → false ≡ same (assigned_meaning numbers) i j
  none_is_not_same none = sym (none_left (slice_get numbers i) (slice_get numbers j) none) ∙ equal_is_same
