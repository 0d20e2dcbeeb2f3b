use Rattle.std.proofs.Common.{◌≡◌, length}
use Rattle.decision.specs.Trials.{setting, tried}
use Rattle.decision.proofs.Looked.{SeenBelow}
use Rattle.decision.proofs.trial.Trial.fits.Given as goal

abbrev pub invariant-loop-c : goal.invariant-loop-c
invariant-loop-c l = record {
  long : length l.seen-items ≡ 64;
  below : SeenBelow (setting l.self) (tried l.self) l.elsewhere l.c l.seen-items;
}
