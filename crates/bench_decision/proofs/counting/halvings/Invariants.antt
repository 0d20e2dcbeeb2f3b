use Rattle.std.proofs.Common.{◌-◌, ◌≤◌}
use Rattle.bench_decision.proofs.counting.halvings.Given as goal

abbrev pub invariant-loop-high : goal.invariant-loop-high
invariant-loop-high l = (l.low ≤ l.high) × (l.high ≤ l.count)

abbrev pub decreases-loop-high : goal.decreases-loop-high
decreases-loop-high l = l.high - l.low
