-- What all columns show of a list of statements.
use Rattle.std.specs.Prelude.{◌≡◌, ℕ, ◌<◌, Bool, true, false, not, ◌&&◌, List, length, Some, None, Option, ◌==◌, slice_index_or}
use Rattle.std.specs.List.{list_all, list_any}
use Rattle.links.specs.Lists.{Member}
use Rattle.arrangement.specs.Meaning.{Meaning, lowest}
use Rattle.statement.specs.declared.Statement.{Statement}
use Rattle.meaning.specs.declared.column.Column.{Column}
use Rattle.meaning.specs.declared.column.Column.TheVariants.{Elsewhere}
use Rattle.meaning.specs.Columns.{at, clash_at, columns}
use Rattle.meaning.specs.Fillings.{Setting, slot_of}
use Rattle.column.specs.declared.sight.Sight.{Sight}
use Rattle.column.specs.Sights.{SeenAt, seem_alike}
use Rattle.decision.specs.declared.sights.Sights.{Sights}

-- is c the lowest name of the slot's class?
abbrev pub leads : Meaning → ℕ → Option ℕ → Bool
leads m c None = false
leads m c (Some i) = lowest m i == c

-- does a statement name a slot of the class that c is the lowest name of?
abbrev pub is_named_in : Meaning → List Statement → ℕ → Bool
is_named_in m xs c = list_any (λ x. leads m c (slot_of x)) xs

-- are two tables not alike in one of the sights?
abbrev pub seem_parted : Sights → ℕ × ℕ → Bool
seem_parted s tables =
    not (seem_alike s.elsewhere.now tables.0 tables.1 && list_all (λ v. seem_alike v tables.0 tables.1) s.each.now)

-- so are the tables that are to differ, if there are such
abbrev pub is_borne_out : Sights → Option (ℕ × ℕ) → Bool
is_borne_out s None = true
is_borne_out s (Some tables) = seem_parted s tables

-- a column at which readings clash
pub record Loud (w : Setting) (xs : List Statement) : Type 0 where
  pub column : Column
  pub among : Member column (columns w)
  pub clash : clash_at w xs column ≡ true

-- the sight is that of some column, at which nothing clashes
pub record OfColumn (w : Setting) (xs : List Statement) (s : Sight) : Type 0 where
  pub column : Column
  pub among : Member column (columns w)
  pub seen : SeenAt w xs column s
  pub calm : s.clash ≡ false

-- the sights are those of the columns, and nothing clashes
pub record AllSeen (w : Setting) (xs : List Statement) (s : Sights) : Type 0 where
  pub nowhere : SeenAt w xs Elsewhere s.elsewhere.now
  pub calm : s.elsewhere.now.clash ≡ false
  pub classes : (c : ℕ) → c < w.slots.size → lowest w.slots c ≡ c → (d : Sight) → SeenAt w xs (at c) (slice_index_or s.each.now c d)
  pub only : (c : ℕ) → c < length s.each.now → (d : Sight) → OfColumn w xs (slice_index_or s.each.now c d)
