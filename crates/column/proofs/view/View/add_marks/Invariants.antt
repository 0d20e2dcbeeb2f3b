use Rattle.std.proofs.Common.{ℕ, List, ◌++◌, take}
use Rattle.column.specs.Naming.{setting_of}
use Rattle.column.specs.Sights.{Readable, Seen}
use Rattle.meaning.specs.Columns.{marks_at}
use Rattle.column.proofs.view.View.add_marks.Given as goal

abbrev pub invariant-loop-x : goal.invariant-loop-x
invariant-loop-x l =
    (links marks : List (ℕ × ℕ)) → Readable (setting_of l.self.naming.now) l.xs → Seen (setting_of l.self.naming.now).readings links marks l.initial.sight
    → Seen (setting_of l.self.naming.now).readings links (marks ++ marks_at (setting_of l.self.naming.now) (take l.x-index l.xs) l.self.column) l.sight
