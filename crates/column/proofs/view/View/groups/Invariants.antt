use Rattle.std.proofs.Common.{take}
use Rattle.column.specs.Naming.{setting_of}
use Rattle.column.specs.Sights.{Readable, whole}
use Rattle.links.specs.Groups.{Roots}
use Rattle.meaning.specs.Columns.{links_at}
use Rattle.column.proofs.view.View.groups.Given as goal

abbrev pub invariant-loop-xs : goal.invariant-loop-xs
invariant-loop-xs l =
    Readable (setting_of l.self.naming.now) (whole l.parts)
    → Roots (links_at (setting_of l.self.naming.now) (whole (take l.xs-index l.parts)) l.self.column) l.groups.root
