use Rattle.std.proofs.Common.{take}
use Rattle.column.specs.Naming.{setting_of}
use Rattle.column.specs.Sights.{Readable, Seen, whole}
use Rattle.meaning.specs.Columns.{links_at, marks_at}
use Rattle.column.proofs.view.View.sight.Given as goal

abbrev pub invariant-loop-xs : goal.invariant-loop-xs
invariant-loop-xs l =
    let w = setting_of l.self.naming.now in
    Readable w (whole l.parts)
    → Seen w.readings (links_at w (whole l.parts) l.self.column) (marks_at w (whole (take l.xs-index l.parts)) l.self.column) l.sight
