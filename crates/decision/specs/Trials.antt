-- What is tried, and what is answered of a list that may not be readable.
use Rattle.std.specs.Prelude.{Bool, ◌&&◌, List}
use Rattle.column.specs.Naming.{setting_of}
use Rattle.column.specs.Sights.{given, is_readable}
use Rattle.meaning.specs.Columns.{test}
use Rattle.meaning.specs.Fillings.{Setting}
use Rattle.statement.specs.declared.Statement.{Statement}
use Rattle.decision.specs.Citations.{fitting}
use Rattle.decision.specs.declared.trial.Trial.{Trial}

-- the arrangements that the statements are read under
abbrev pub setting : Trial → Setting
setting t = setting_of t.naming.now

-- the offered statement, those kept, and the rest
abbrev pub tried : Trial → List Statement
tried t = given t.offered t.kept.now t.rest.now

-- do these fit with the offered statement?
abbrev pub fits_with : Trial → List Statement → Bool
fits_with t ys = fitting (setting t) t.offered ys

-- are the names of all statements below the counts, and does a filling fit them?
abbrev pub fits_answer : Setting → List Statement → Bool
fits_answer w xs = is_readable w xs && test w xs
