use Rattle.std.proofs.Common.{length, ap, arith}
use Rattle.standing.proofs.Changes.{nothing_stands}
use Rattle.standing.proofs.standing.Standing.new.Goals as goal

pub invariant_of-result : goal.invariant_of-result
invariant_of-result c =
    let list = c.into_list.ensures in
    record {
      stands = rw list.empty (nothing_stands 0 c.args.naming);
      few = omega arith;
      room = list.room;
      short = omega (arith, c.into_list.result.ok.0, ap length list.empty);
    }
