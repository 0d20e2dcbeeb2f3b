use Rattle.std.proofs.Common.{ℕ, List, ◌++◌, take}
use Rattle.column.specs.Naming.{setting_of}
use Rattle.column.specs.Sights.{Readable}
use Rattle.links.specs.Groups.{Roots}
use Rattle.meaning.specs.Columns.{links_at}
use Rattle.column.proofs.view.View.add_links.Given as goal

abbrev pub invariant-loop-x : goal.invariant-loop-x
invariant-loop-x l =
    (links : List (ℕ × ℕ)) → Readable (setting_of l.self.naming.now) l.xs → Roots links l.initial.groups.root
    → Roots (links ++ links_at (setting_of l.self.naming.now) (take l.x-index l.xs) l.self.column) l.groups.root
