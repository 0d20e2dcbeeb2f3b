use Rattle.std.proofs.Common.{sym, ◌∙◌}
use Rattle.column.specs.Naming.{setting_of}
use Rattle.column.specs.Sights.{given}
use Rattle.decision.proofs.Looked.{readable_has}
use Rattle.decision.proofs.deciding.fits.Goals as goal

pub invariant_of-fits : goal.invariant_of-fits
invariant_of-fits c = record {
  readable = readable_has (setting_of c.args.naming.now) (given c.args.offered c.args.kept.now c.args.rest.now)
      (sym c.is_readable.ensures ∙ c.if-is_readable.true);
}
