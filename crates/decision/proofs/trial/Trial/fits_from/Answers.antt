use Rattle.decision.specs.Trials.{setting}
use Rattle.decision.proofs.Blaming.{readable_later}
use Rattle.decision.proofs.trial.Trial.fits_from.Goals as goal

pub invariant_of-shorter : goal.invariant_of-shorter
invariant_of-shorter c =
    let t = c.args.self.now in
    record { readable = readable_later (setting t) t.offered t.kept.now t.rest.now c.args.place t.readable }
