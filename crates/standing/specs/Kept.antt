-- What a table of standing statements keeps.
use Rattle.std.specs.Prelude.{ℕ, Bool, ◌&&◌, List}
use Rattle.std.specs.List.{list_all}
use Rattle.column.specs.Naming.{setting_of}
use Rattle.column.specs.declared.naming.Naming.{Naming}
use Rattle.meaning.specs.Columns.{test}
use Rattle.meaning.specs.Fillings.{is_within}
use Rattle.statement.specs.declared.Statement.{Statement}

-- are all names of the statements below the counts, and do the statements fit together?
abbrev pub is_standing : ℕ → Naming → List Statement → Bool
is_standing tables naming xs = list_all (is_within tables (setting_of naming)) xs && test (setting_of naming) xs
