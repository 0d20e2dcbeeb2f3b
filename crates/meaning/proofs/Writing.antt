-- The numbers that are written are those of the filling that is built.
use Rattle.std.proofs.Common.{◌≡◌, ℕ, suc, ◌+◌, ◌*◌, ◌/◌, ◌%◌, ◌<◌, ◌≤◌, ltb, List, length, get_or, sym, ap, ◌∙◌, arith}
use Rattle.std.proofs.lemmas.Nat.{div-mul-add, mod-mul-add, mul-add-lt}
use Rattle.std.proofs.lemmas.List.FromFn.{get_or-map-range_with_len, length-map-range_with_len}
use Rattle.std.proofs.lemmas.Bool.{cond-false, cond-true, le-ltb, lt-ltb}
use Rattle.statement.specs.declared.Statement.{Statement}
use Rattle.meaning.specs.declared.column.Column.TheVariants.{Elsewhere}
use Rattle.meaning.specs.Answers.{cell, column_at, column_of, filled, filling}
use Rattle.meaning.specs.Fillings.{Orderly, Setting}
use Rattle.meaning.specs.Theorems.{FillingFits, Written}
use Rattle.meaning.proofs.ClassNumbers.{numbered_none, numbered_slot}
use Rattle.meaning.proofs.Complete.{filled_fits}
use Rattle.meaning.proofs.Deciding.{fillable_passes}

module _ (w : Setting) (laws : Orderly w) (tables : ℕ) (xs : List Statement) where
  abbrev row : ℕ
  row = suc w.slots.size

  at_place : (t i : ℕ) → t < tables → i ≤ w.slots.size
      → get_or (filling w tables xs) (t * row + i) 0 ≡ cell w tables xs (column_at w i) t
  unfolding filling
  at_place t i l n =
      let place = t * row + i in
      let f : ℕ → ℕ = λ p. cell w tables xs (column_at w (p % row)) (p / row) in
      let inside : i < row = omega arith in
      let under : place < tables * row = omega (arith, mul-add-lt t row i tables l inside) in
      get_or-map-range_with_len f 0 (tables * row) place place 0 under (omega arith)
      ∙ ap (λ (c : ℕ). cell w tables xs (column_at w c) (place / row)) (mod-mul-add t row i inside)
      ∙ ap (λ (s : ℕ). cell w tables xs (column_at w i) s) (div-mul-add t row i inside)

  many_numbers : length (filling w tables xs) ≡ tables * row
  unfolding filling
  many_numbers = length-map-range_with_len (λ p. cell w tables xs (column_at w (p % row)) (p / row)) 0 (tables * row)

  pub written : Written w tables (filling w tables xs) (filled w tables xs)
  unfolding filled
  written = record {
    many = many_numbers;
    named = λ t i l n.
        at_place t i l (omega arith)
        ∙ ap (λ k. cell w tables xs k t)
        (cond-true (ltb i w.slots.size) (column_of w i) Elsewhere (lt-ltb i w.slots.size n) ∙ sym (numbered_slot w laws.slots i n));
    elsewhere = λ t n l never.
        at_place t w.slots.size l (omega arith)
        ∙ ap (λ k. cell w tables xs k t)
        (cond-false (ltb w.slots.size w.slots.size) (column_of w w.slots.size) Elsewhere (le-ltb w.slots.size w.slots.size (omega arith))
        ∙ sym (numbered_none w laws.slots n never));
  }

pub filling_fits : FillingFits
filling_fits w laws xs named some tables =
    (filled_fits w laws xs named (fillable_passes w laws xs named some) tables, written w laws tables xs)
