use Rattle.std.proofs.Common.{vec_items}
use Rattle.standing.proofs.Changes.{offered_readable}
use Rattle.standing.proofs.standing.Standing.fits.Goals as goal

pub invariant_of-trial : goal.invariant_of-trial
invariant_of-trial c =
    let s = c.args.self.now in
    record {
      readable = offered_readable s.tables s.naming c.args.offered (vec_items s.list) s.stands s.few
          c.if-not-is_within.ensures c.as_slice.result.now c.as_slice.ensures.value;
    }
