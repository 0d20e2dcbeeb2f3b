use Rattle.std.proofs.Common.{◌-◌, ◌≤◌, length}
use Rattle.bounded.specs.Items.{items_of}
use Rattle.decision.specs.Trials.{setting}
use Rattle.decision.proofs.Blaming.{Blaming}
use Rattle.decision.proofs.trial.Trial.blame.Given as goal

abbrev pub invariant-loop-i : goal.invariant-loop-i
invariant-loop-i l = record {
  many : length (items_of l.positions) ≤ l.p;
  kept : length (items_of l.kept) ≤ l.p;
  within : l.p ≤ length l.self.rest.now;
  blaming : Blaming (setting l.self) l.self.offered l.self.rest.now (items_of l.positions) (items_of l.kept) l.p;
}

abbrev pub decreases-loop-i : goal.decreases-loop-i
decreases-loop-i l = length l.self.rest.now - l.p
