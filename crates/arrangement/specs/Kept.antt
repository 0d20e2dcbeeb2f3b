-- What stored lowest names mean, and that it is what the arrangement means.
use Rattle.std.specs.Prelude.{◌≡◌, ℕ, ◌<◌, ◌≤◌, List, length, Some, None, slice_get, slice_index}
use Rattle.std.proofs.Common.{sym, ap, ◌∙◌, inl, inr, arith}
use Rattle.std.proofs.lemmas.Bool.{cases_lt, cond-false, cond_below, eq-eqb, eqb-true, le-ltb}
use Rattle.std.proofs.lemmas.Option.{slice_get-get_or, slice_get_past}
use Rattle.bounded.specs.Items.{items_of}
use Rattle.bounded.specs.Laws.{few}
use Rattle.arrangement.specs.declared.classes.Classes.{Classes}
use Rattle.arrangement.specs.Meaning.{Meaning, Lawful, lowest, same}
use Rattle.arrangement.specs.Numbers.{assigned_meaning}
use Rattle.arrangement.specs.NumbersLemmas.{listed_lawful}
use Rattle.arrangement.specs.Stored.{classes_meaning, lowest_of}
use Rattle.arrangement.specs.Laws.{same_answer, same_from, same_low, same_related}
use Rattle.arrangement.specs.Lowest.{lowest_back, lowest_in, lowest-le, lowest_least, lowest_same, lowest_twice}

pub lawful : (c : Classes) → Lawful (classes_meaning c)
lawful c = listed_lawful (items_of c.lowest) (few c.lowest)

-- what is stored is the lowest name of what is meant
pub stored_lowest : (c : Classes) (i : ℕ) → i < length (items_of c.lowest) → slice_index (items_of c.lowest) i ≡ lowest (classes_meaning c) i
stored_lowest c i l =
    let m = classes_meaning c in
    let at : ℕ → ℕ = λ k. slice_index (items_of c.lowest) k in
    let k = lowest m i in
    let s = lowest_in m (lawful c) i l in
    let e = eqb-true (at k) (at i) (same_related m k i s) in
    let above = c.down k (same_low m k i s).0 in
    let down = c.down i l in
    let below = lowest_least m (lawful c) i (at i) (same_from m (at i) i (omega arith) l (eq-eqb (at (at i)) (at i) (c.root i l))) in
    omega (arith, below, above, e)

-- and what is stored nowhere is no name
pub looked_up : (c : Classes) (i : ℕ) → slice_get (items_of c.lowest) i ≡ lowest_of (classes_meaning c) i
looked_up c i =
    let list = items_of c.lowest in
    elim (cases_lt i (length list)) [
      | inl low ↦ slice_get-get_or list i 0 low ∙ ap Some (stored_lowest c i low) ∙ cond_below i (length list) _ None low
      | inr past ↦ slice_get_past list i past ∙ sym (cond-false _ _ _ (le-ltb i (length list) past))
    ]

-- the lowest names of an arrangement, stored in a list
module _ (m : Meaning) (law : Lawful m) (list : List ℕ) (e : length list ≡ m.size)
    (stored : (k : ℕ) → k < length list → slice_index list k ≡ lowest m k) where
  pub agrees : (i j : ℕ) → same (assigned_meaning list) i j ≡ same m i j
  agrees i j =
      let s = assigned_meaning list in
      same_answer (same s i j) (same m i j)
      (λ h.
      let names = same_low s i j h in
      let one = eqb-true (slice_index list i) (slice_index list j) (same_related s i j h) in
      lowest_back m law i j (omega (arith, names.0)) (omega (arith, names.1))
      (sym (stored i names.0) ∙ one ∙ stored j names.1))
      (λ h.
      let names = same_low m i j h in
      let l : i < length list = omega (arith, names.0) in
      let k : j < length list = omega (arith, names.1) in
      same_from s i j l k
      (eq-eqb (slice_index list i) (slice_index list j) (stored i l ∙ lowest_same m law i j h ∙ sym (stored j k))))

  pub down_from : (i : ℕ) → i < length list → slice_index list i ≤ i
  down_from i l = omega (arith, stored i l, lowest-le m law i)

  pub root_from : (i : ℕ) → i < length list → slice_index list (slice_index list i) ≡ slice_index list i
  root_from i l =
      let down = lowest-le m law i in
      ap (λ (k : ℕ). slice_index list k) (stored i l)
      ∙ stored (lowest m i) (omega (arith, down))
      ∙ lowest_twice m law i (omega arith)
      ∙ sym (stored i l)
