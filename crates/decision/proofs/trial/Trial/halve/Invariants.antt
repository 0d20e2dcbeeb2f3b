use Rattle.std.proofs.Common.{◌≡◌, ◌-◌, ◌<◌, ◌≤◌, true, false, ◌++◌, length, drop}
use Rattle.decision.specs.Trials.{fits_with}
use Rattle.decision.proofs.trial.Trial.halve.Given as goal

-- the rest does not fit from `low` on, and fits from `high` on
abbrev pub invariant-loop-high : goal.invariant-loop-high
invariant-loop-high l = record {
  apart : l.low < l.high;
  within : l.high ≤ length l.self.rest.now;
  fails : fits_with l.self (l.self.kept.now ++ drop l.low l.self.rest.now) ≡ false;
  passes : fits_with l.self (l.self.kept.now ++ drop l.high l.self.rest.now) ≡ true;
}

abbrev pub decreases-loop-high : goal.decreases-loop-high
decreases-loop-high l = l.high - l.low
