-- The columns of tables, and the test that they give. A column is a slot class, or all the slots that no name has.
use Rattle.std.specs.Prelude.{◌≡◌, ℕ, zero, suc, Bool, true, false, cond, not, ◌&&◌, ◌||◌, ◌⊎◌, List, [], ◌∷◌, map, Some, None, Option, ◌==◌}
use Rattle.std.specs.List.{list_all, list_any}
use Rattle.links.specs.Chains.{Joins, joined}
use Rattle.links.specs.Lists.{Member, present}
use Rattle.arrangement.specs.Meaning.{Meaning, lowest, same}
use Rattle.statement.specs.declared.Statement.{Statement}
use Rattle.statement.specs.declared.Statement.TheVariants.{W, R, E, D}
use Rattle.meaning.specs.declared.column.Column.{Column}
use Rattle.meaning.specs.declared.column.Column.TheVariants.{At, Elsewhere}
use Rattle.meaning.specs.Fillings.{Setting}

-- the column of the class whose lowest name this is
abbrev pub at : ℕ → Column
at c = At (record { 0 = c })

-- is slot i of the column's class?
abbrev pub here : Setting → Column → ℕ → Bool
here w (At c) i = same w.slots c.0 i
here w Elsewhere i = false

-- the two tables that the statement links at the column: they hold the same there
abbrev pub link_at : Setting → Column → Statement → Option (ℕ × ℕ)
link_at w k (W b a i v) = cond (here w k i.0) None (Some (b.0, a.0))
link_at w k (R a i v) = None
link_at w k (E a b) = Some (a.0, b.0)
link_at w k (D a b) = None

-- the table that the statement marks at the column, and the reading that the table holds there
abbrev pub mark_at : Setting → Column → Statement → Option (ℕ × ℕ)
mark_at w k (W b a i v) = cond (here w k i.0) (Some (b.0, v.0)) None
mark_at w k (R a i v) = cond (here w k i.0) (Some (a.0, v.0)) None
mark_at w k (E a b) = None
mark_at w k (D a b) = None

-- the two tables that differ at some slot, since the statement says so
abbrev pub difference : Statement → Option (ℕ × ℕ)
difference (W b a i v) = None
difference (R a i v) = None
difference (E a b) = None
difference (D a b) = Some (a.0, b.0)

unfoldable pub links_at : Setting → List Statement → Column → List (ℕ × ℕ)
links_at w xs k = present (map (link_at w k) xs)

unfoldable pub marks_at : Setting → List Statement → Column → List (ℕ × ℕ)
marks_at w xs k = present (map (mark_at w k) xs)

unfoldable pub differences : List Statement → List (ℕ × ℕ)
differences xs = present (map difference xs)

-- a chain joins tables marked with readings that are not the same
pub record Clash (m : Meaning) (links marks : List (ℕ × ℕ)) : Type 0 where
  pub p : ℕ × ℕ
  pub q : ℕ × ℕ
  pub marked_p : Member p marks
  pub marked_q : Member q marks
  pub chain : Joins links p.0 q.0
  pub unlike : same m p.1 q.1 ≡ false

-- each of the tables is joined to one that is marked, with readings that are the same
pub record MarkedAlike (m : Meaning) (links marks : List (ℕ × ℕ)) (a b : ℕ) : Type 0 where
  pub p : ℕ × ℕ
  pub q : ℕ × ℕ
  pub marked_p : Member p marks
  pub marked_q : Member q marks
  pub chain_a : Joins links a p.0
  pub chain_b : Joins links b q.0
  pub alike : same m p.1 q.1 ≡ true

-- the tables are alike: a chain joins them, or they are marked alike
abbrev pub TablesAlike : Meaning → List (ℕ × ℕ) → List (ℕ × ℕ) → ℕ → ℕ → Type 0
TablesAlike m links marks a b = Joins links a b ⊎ MarkedAlike m links marks a b

abbrev pub ClashAt : Setting → List Statement → Column → Type 0
ClashAt w xs k = Clash w.readings (links_at w xs k) (marks_at w xs k)

abbrev pub AlikeAt : Setting → List Statement → ℕ × ℕ → Column → Type 0
AlikeAt w xs tables k = TablesAlike w.readings (links_at w xs k) (marks_at w xs k) tables.0 tables.1

-- the columns: elsewhere, and one for each slot class, by its lowest name
abbrev pub columns_below : Meaning → ℕ → List Column
columns_below m zero = Elsewhere ∷ []
columns_below m (suc c) = cond (lowest m c == c) (at c ∷ columns_below m c) (columns_below m c)

unfoldable pub columns : Setting → List Column
columns w = columns_below w.slots w.slots.size

-- at some column there is a clash
pub record SomeClash (w : Setting) (xs : List Statement) : Type 0 where
  pub column : Column
  pub among : Member column (columns w)
  pub clash : ClashAt w xs column

-- some two tables are to differ, and are alike at every column
pub record AlikeThroughout (w : Setting) (xs : List Statement) : Type 0 where
  pub tables : ℕ × ℕ
  pub differ : Member tables (differences xs)
  pub alike : (k : Column) → Member k (columns w) → AlikeAt w xs tables k

-- The same, computed.

unfoldable pub clash : Meaning → List (ℕ × ℕ) → List (ℕ × ℕ) → Bool
clash m links marks = list_any (λ p. list_any (λ q. joined links p.0 q.0 && not (same m p.1 q.1)) marks) marks

unfoldable pub alike : Meaning → List (ℕ × ℕ) → List (ℕ × ℕ) → ℕ → ℕ → Bool
alike m links marks a b =
    joined links a b
    || list_any (λ p. list_any (λ q. (joined links a p.0 && joined links b q.0) && same m p.1 q.1) marks) marks

unfoldable pub clash_at : Setting → List Statement → Column → Bool
clash_at w xs k = clash w.readings (links_at w xs k) (marks_at w xs k)

unfoldable pub alike_at : Setting → List Statement → ℕ × ℕ → Column → Bool
alike_at w xs tables k = alike w.readings (links_at w xs k) (marks_at w xs k) tables.0 tables.1

-- are two tables not alike at some column?
unfoldable pub parted : Setting → List Statement → ℕ × ℕ → Bool
parted w xs tables = not (list_all (alike_at w xs tables) (columns w))

-- no column clashes, and tables that are to differ are not alike at some column
unfoldable pub test : Setting → List Statement → Bool
test w xs = list_all (λ k. not (clash_at w xs k)) (columns w) && list_all (parted w xs) (differences xs)
