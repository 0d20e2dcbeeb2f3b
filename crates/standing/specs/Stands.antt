-- What a table of standing statements holds, and what changes it.
use Rattle.std.specs.Prelude.{ℕ, Bool, cond, ◌&&◌, List, [], ◌∷◌, ◌++◌, length, nat_le, nat_lt}
use Rattle.column.specs.Naming.{setting_of}
use Rattle.column.specs.declared.naming.Naming.{Naming}
use Rattle.meaning.specs.Columns.{test}
use Rattle.meaning.specs.Fillings.{is_within}
use Rattle.meaning.specs.Theorems.{omit}
use Rattle.standing.specs.declared.standing.Standing.{Standing}
use Rattle.statement.specs.declared.Statement.{Statement}

-- how many tables there are, the classes that statements are read under, and the statements, in order
pub record Stands : Type 0 where
  pub tables : ℕ
  pub naming : Naming
  pub statements : List Statement

abbrev pub stands_of : Standing → Stands
stands_of x = record { tables = x.tables; naming = x.naming; statements = x.list.items }

abbrev pub with_statements : Stands → List Statement → Stands
with_statements s xs = record { tables = s.tables; naming = s.naming; statements = xs }

-- no table, and no statement
abbrev pub nothing : Naming → Stands
nothing naming = record { tables = 0; naming = naming; statements = [] }

-- are so many tables no fewer than before, and not too many?
abbrev pub opens : Stands → ℕ → Bool
opens s tables = nat_le s.tables tables && nat_le tables 128

abbrev pub opened : Stands → ℕ → Stands
opened s tables = cond (opens s tables) (record { tables = tables; naming = s.naming; statements = s.statements }) s

-- are all names of the statement below the counts, and does it fit with those that stand?
abbrev pub fitting : Stands → Statement → Bool
fitting s x = is_within s.tables (setting_of s.naming) x && test (setting_of s.naming) (x ∷ s.statements)

-- is there a place for it too?
abbrev pub admits : Stands → Statement → Bool
admits s x = nat_lt (length s.statements) 512 && fitting s x

-- with the statement at the end, if it is admitted
abbrev pub added : Stands → Statement → Stands
added s x = cond (admits s x) (with_statements s (s.statements ++ (x ∷ []))) s

-- without the statement at place k
abbrev pub removed : Stands → ℕ → Stands
removed s k = with_statements s (omit k s.statements)
