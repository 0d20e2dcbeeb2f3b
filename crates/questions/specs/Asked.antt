-- What is asked of the standing statements, and what is answered.
use Rattle.std.specs.Prelude.{ℕ, Bool, cond, not, ◌&&◌, List, map, Some, None, Option, ◌==◌, nat_lt}
use Rattle.arrangement.specs.Meaning.{lowest}
use Rattle.column.specs.Naming.{setting_of}
use Rattle.meaning.specs.declared.apart.Apart.{Apart}
use Rattle.meaning.specs.declared.column.Column.{Column}
use Rattle.meaning.specs.Answers.{apart, told}
use Rattle.meaning.specs.Columns.{alike_at, at, link_at}
use Rattle.meaning.specs.Fillings.{Setting}
use Rattle.standing.specs.declared.standing.Standing.{Standing}
use Rattle.statement.specs.declared.Reading.{Reading}
use Rattle.statement.specs.declared.Statement.{Statement}

-- the arrangements that the statements are read under
abbrev pub setting_in : Standing → Setting
setting_in s = setting_of s.naming

-- the statements, in order
abbrev pub list_in : Standing → List Statement
list_in s = s.list.items

-- for each statement, in order, what it links at the column
abbrev pub links_in : Standing → Column → List (Option (ℕ × ℕ))
links_in s k = map (link_at (setting_in s) k) (list_in s)

-- what is told of table a at slot i, where both are names
abbrev pub told_answer : Standing → ℕ → ℕ → Option (Reading × ℕ)
told_answer s a i = cond (nat_lt a s.tables && nat_lt i (setting_in s).slots.size) (told (setting_in s) (list_in s) a i) None

-- are the tables not alike at the column?
abbrev pub unlike_at : Standing → ℕ → ℕ → Column → Bool
unlike_at s a b k = not (alike_at (setting_in s) (list_in s) (a, b) k)

-- is c the lowest name of its class, and are the tables not alike there?
abbrev pub unlike_class : Standing → ℕ → ℕ → ℕ → Bool
unlike_class s a b c = lowest (setting_in s).slots c == c && unlike_at s a b (at c)

-- at how many slots tables a and b can differ, where both are names
abbrev pub apart_answer : Standing → ℕ → ℕ → Option Apart
apart_answer s a b = cond (nat_lt a s.tables && nat_lt b s.tables) (Some (apart (setting_in s) (list_in s) a b)) None
