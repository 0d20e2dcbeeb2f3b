use Rattle.std.proofs.Common.{◌≡◌, map, take}
use Rattle.bounded.specs.Items.{items_of}
use Rattle.column.specs.Naming.{setting_of}
use Rattle.meaning.specs.Columns.{link_at}
use Rattle.questions.proofs.gathering.gather.Given as goal

-- the links of the statements so far
abbrev pub invariant-loop-x : goal.invariant-loop-x
invariant-loop-x l = items_of l.links ≡ map (link_at (setting_of l.view.naming.now) l.view.column) (take l.x-index l.x-items)
