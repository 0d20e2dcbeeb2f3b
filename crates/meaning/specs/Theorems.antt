-- What the columns and the answers mean, in terms of fillings.
use Rattle.std.specs.Prelude.{◌≡◌, ℕ, zero, suc, ◌+◌, ◌*◌, ◌<◌, ◌≤◌, true, ◌⊎◌, ◌↔◌, List, [], ◌∷◌, map, length, Some, None, Option, slice_index}
use Rattle.links.specs.Chains.{Nearest}
use Rattle.links.specs.Lists.{Member, present}
use Rattle.arrangement.specs.Meaning.{Alike, lowest}
use Rattle.statement.specs.declared.Reading.{Reading}
use Rattle.statement.specs.declared.Statement.{Statement}
use Rattle.meaning.specs.declared.apart.Apart.{Apart}
use Rattle.meaning.specs.declared.apart.Apart.TheVariants.{NoLimit, Limit}
use Rattle.meaning.specs.Answers.{apart, at_positions, bears, cited, column_of, filled, filling, told}
use Rattle.meaning.specs.Columns.{AlikeThroughout, SomeClash, links_at, marks_at, test}
use Rattle.meaning.specs.Fillings.{Filling, Fillable, FitsAll, Named, Orderly, Setting, reading_of, slot_of}

-- The columns decide: no filling fits exactly when there is a clash at some column, or tables that are to differ are alike
-- at every column; and the test computes that.
pub record Decided (w : Setting) (xs : List Statement) : Type 0 where
  pub never : (¬ Fillable w xs) ↔ (SomeClash w xs ⊎ AlikeThroughout w xs)
  pub computed : (test w xs ≡ true) ↔ Fillable w xs

abbrev pub ColumnsDecide : Type 0
ColumnsDecide = (w : Setting) → Orderly w → (xs : List Statement) → Named w xs → Decided w xs

-- The numbers are those that the filling has at each table and slot name, and at the slot numbers that no name has.
pub record Written (w : Setting) (tables : ℕ) (numbers : List ℕ) (f : Filling) : Type 0 where
  pub many : length numbers ≡ tables * suc w.slots.size
  pub named : (t i : ℕ) → t < tables → i < w.slots.size
      → slice_index numbers (t * suc w.slots.size + i) ≡ f.holds t (f.slot i)
  pub elsewhere : (t k : ℕ) → t < tables → ((i : ℕ) → i < w.slots.size → ¬ (f.slot i ≡ k))
      → slice_index numbers (t * suc w.slots.size + w.slots.size) ≡ f.holds t k

-- The filling is one that fits, whenever one fits.
abbrev pub FillingFits : Type 0
FillingFits =
    (w : Setting) → Orderly w → (xs : List Statement) → Named w xs → Fillable w xs
    → (tables : ℕ) → FitsAll w xs (filled w tables xs) × Written w tables (filling w tables xs) (filled w tables xs)

-- every filling that fits has the reading's number there
abbrev pub Follows : Setting → List Statement → ℕ → ℕ → ℕ → Type 0
Follows w xs a i v = (f : Filling) → FitsAll w xs f → f.holds a (f.slot i) ≡ f.reading v

-- the answer is this reading, at some distance
abbrev pub Names : Option (Reading × ℕ) → ℕ → Type 0
Names answer v = (d : ℕ) × (answer ≡ Some (record { 0 = v }, d))

-- A reading is told, by its lowest name, exactly when it follows, and nothing exactly when none does. The distance is the
-- fewest links to a marked table.
pub record Tells (w : Setting) (xs : List Statement) (a i : ℕ) (answer : Option (Reading × ℕ)) : Type 0 where
  pub reading : (v : ℕ) → v < w.readings.size → Names answer (lowest w.readings v) ↔ Follows w xs a i v
  pub free : (answer ≡ None) ↔ ((v : ℕ) → v < w.readings.size → ¬ Follows w xs a i v)
  pub nearest : (v : Reading) (d : ℕ) → answer ≡ Some (v, d)
      → Nearest (links_at w xs (column_of w i)) (bears (marks_at w xs (column_of w i))) a (Some d)

abbrev pub ToldFollows : Type 0
ToldFollows =
    (w : Setting) → Orderly w → (xs : List Statement) → Named w xs → Fillable w xs
    → (a i : ℕ) → i < w.slots.size → Tells w xs a i (told w xs a i)

-- no number stands twice in the list
abbrev pub Distinct : List ℕ → Type 0
Distinct [] = Unit {0}
Distinct (n ∷ ns) = (¬ Member n ns) × Distinct ns

-- the tables hold different numbers at each of these slot numbers
pub record DifferAt (f : Filling) (a b : ℕ) (slots : List ℕ) : Type 0 where
  pub distinct : Distinct slots
  pub differ : (n : ℕ) → Member n slots → ¬ (f.holds a n ≡ f.holds b n)

-- a filling that fits lets the tables differ at so many slots
abbrev pub CanDiffer : Setting → List Statement → ℕ → ℕ → ℕ → Type 0
CanDiffer w xs a b count =
    (f : Filling) × FitsAll w xs f × ((slots : List ℕ) × DifferAt f a b slots × (length slots ≡ count))

-- The count is the greatest number of slots at which a filling that fits lets the tables differ; there is no limit exactly
-- when there is no greatest number.
pub record Limits (w : Setting) (xs : List Statement) (a b : ℕ) (answer : Apart) : Type 0 where
  pub attained : (set count : ℕ) → answer ≡ Limit set count → CanDiffer w xs a b count
  pub greatest : (set count : ℕ) → answer ≡ Limit set count → (n : ℕ) → CanDiffer w xs a b n → n ≤ count
  pub unlimited : (answer ≡ NoLimit) ↔ ((n : ℕ) → (m : ℕ) × (n < m) × CanDiffer w xs a b m)

abbrev pub ApartIsGreatest : Type 0
ApartIsGreatest =
    (w : Setting) → Orderly w → (xs : List Statement) → Named w xs → Fillable w xs
    → (a b : ℕ) → Limits w xs a b (apart w xs a b)

-- other arrangements are lawful and relate the names in the statements alike
pub record Likewise (w w' : Setting) (xs : List Statement) : Type 0 where
  pub orderly : Orderly w'
  pub slots : Alike w.slots w'.slots (present (map slot_of xs))
  pub readings : Alike w.readings w'.readings (present (map reading_of xs))

-- the list without what stands at place i
abbrev pub omit : {X : Type 0} → ℕ → List X → List X
omit i [] = []
omit zero (x ∷ xs) = xs
omit (suc i) (x ∷ xs) = x ∷ omit i xs

-- the numbers rise, above the one and up to the other
abbrev pub Rising : ℕ → ℕ → List ℕ → Type 0
Rising low high [] = Unit {0}
Rising low high (n ∷ ns) = (low < n) × (n ≤ high) × Rising n high ns

-- What stands at the positions is to blame: with the offered statement it has no filling, wherever the names are related
-- alike. And it is minimal: a filling fits once any one of the positions is omitted.
pub record Blames (w : Setting) (xs : List Statement) (offered : Statement) (positions : List ℕ) : Type 0 where
  pub rising : Rising 0 (length xs) positions
  pub against : (w' : Setting) → Likewise w w' (offered ∷ at_positions xs positions) → ¬ Fillable w' (offered ∷ at_positions xs positions)
  pub minimal : (i : ℕ) → i < length positions → Fillable w (offered ∷ at_positions xs (omit i positions))

abbrev pub CitedIsToBlame : Type 0
CitedIsToBlame =
    (w : Setting) → Orderly w → (xs : List Statement) (offered : Statement) → Named w (offered ∷ xs)
    → ¬ Fillable w (offered ∷ xs) → Blames w xs offered (cited w xs offered)

-- every one of the first list is one of the second
abbrev pub Within : {X : Type 0} → List X → List X → Type 0
Within {X} xs ys = (x : X) → Member x xs → Member x ys

-- A part of a list that fits, fits. Neither order nor repeats matter.
pub record PartsFit : Type 0 where
  pub part : (w : Setting) (xs ys : List Statement) → Within xs ys → Fillable w ys → Fillable w xs
  pub order : (w : Setting) (xs ys : List Statement) → Within xs ys → Within ys xs → Fillable w xs ↔ Fillable w ys
