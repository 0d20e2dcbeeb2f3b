-- What a column shows: groups of tables, the reading of each group, and whether readings clash.
use Rattle.std.specs.Borrow.{Bor}
use Rattle.std.specs.List.{flat_map, list_all}
use Rattle.std.specs.Prelude.{◌≡◌, ℕ, ◌<◌, Bool, true, false, not, ◌||◌, ◌↔◌, List, ◌∷◌, ◌++◌, Some, None, Option, ◌==◌, nat_eq, slice_index_or, slice_set}
use Rattle.links.specs.Chains.{lowest_joined}
use Rattle.links.specs.Groups.{Roots, root_of}
use Rattle.links.specs.Lists.{Member}
use Rattle.arrangement.specs.Meaning.{Meaning}
use Rattle.arrangement.specs.Numbers.{both_equal}
use Rattle.statement.specs.declared.Statement.{Statement}
use Rattle.meaning.specs.declared.column.Column.{Column}
use Rattle.meaning.specs.Answers.{known_by}
use Rattle.meaning.specs.Columns.{Clash, links_at, marks_at}
use Rattle.meaning.specs.Fillings.{Setting, is_within}
use Rattle.column.specs.declared.sight.Sight.{Sight}

-- the reading that a table's group is marked with, if it is marked
abbrev pub mark_of : List ℕ → List (Option ℕ) → ℕ → Option ℕ
mark_of root marks t = slice_index_or marks (root_of root t) None

abbrev pub reading_of : Sight → ℕ → Option ℕ
reading_of s t = mark_of s.groups.root s.marks t

-- are the tables of one group, or of groups with the same reading?
abbrev pub seem_alike : Sight → ℕ → ℕ → Bool
seem_alike s a b =
    (root_of s.groups.root a == root_of s.groups.root b) || both_equal nat_eq (reading_of s a) (reading_of s b)

-- the first reading of a group stays
abbrev pub first_mark : Option ℕ → ℕ → Option ℕ
first_mark None c = Some c
first_mark (Some v) c = Some v

-- what is written past the end, for a table that has no group, is dropped
abbrev pub marked_marks : List ℕ → List (Option ℕ) → ℕ → ℕ → List (Option ℕ)
marked_marks root marks t c = slice_set marks (root_of root t) (first_mark (mark_of root marks t) c)

-- another reading of a group clashes
abbrev pub differs : Option ℕ → ℕ → Bool
differs None c = false
differs (Some v) c = not (v == c)

abbrev pub marked_clash : List ℕ → List (Option ℕ) → ℕ → ℕ → Bool
marked_clash root marks t c = differs (mark_of root marks t) c

-- the groups, readings and the clash are those of these links and marks
pub record SeenBy (m : Meaning) (links marks : List (ℕ × ℕ)) (root : List ℕ) (stored : List (Option ℕ)) (clash : Bool) : Type 0 where
  pub roots : Roots links root
  pub named : (p : ℕ × ℕ) → Member p marks → (p.0 < 128) × (p.1 < m.size)
  pub known : (t : ℕ) → t < 128 → slice_index_or stored (lowest_joined links t) None ≡ known_by m links marks t
  pub clashes : (clash ≡ true) ↔ Clash m links marks

abbrev pub Seen : Meaning → List (ℕ × ℕ) → List (ℕ × ℕ) → Sight → Type 0
Seen m links marks s = SeenBy m links marks s.groups.root s.marks s.clash

-- the sight is that of the column
abbrev pub SeenAt : Setting → List Statement → Column → Sight → Type 0
SeenAt w xs k s = Seen w.readings (links_at w xs k) (marks_at w xs k) s

-- the names of the statements are below the counts, and the tables below 128
abbrev pub Readable : Setting → List Statement → Type 0
Readable w xs = (x : Statement) → Member x xs → is_within 128 w x ≡ true

-- are they?
abbrev pub is_readable : Setting → List Statement → Bool
is_readable w xs = list_all (is_within 128 w) xs

-- the list that the parts make, one after the other
abbrev pub whole : List (Bor (List Statement)) → List Statement
whole parts = flat_map (λ xs. xs.now) parts

-- the offered statement, those kept, and the rest
abbrev pub given : Statement → List Statement → List Statement → List Statement
given offered kept rest = offered ∷ (kept ++ rest)
