use Rattle.std.proofs.Common.{◌≡◌, ◌-◌}
use Rattle.std.specs.List.{range_with_len}
use Rattle.bounded.specs.Items.{items_of}
use Rattle.decision.proofs.cite.all.Given as goal

abbrev pub invariant-loop-position : goal.invariant-loop-position
invariant-loop-position l = items_of l.positions ≡ range_with_len 1 (l.position - 1)
