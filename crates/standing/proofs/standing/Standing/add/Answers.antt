use Rattle.std.proofs.Common.{vec_items, arith}
use Rattle.standing.proofs.Changes.{added_stands}
use Rattle.standing.proofs.standing.Standing.add.Goals as goal

pub invariant_of-self : goal.invariant_of-self
invariant_of-self c =
    let s = c.args.self.now in
    record {
      stands = rw c.push_reserved.ensures.items
          (added_stands s.tables s.naming c.args.x (vec_items s.list) s.stands c.if-not-fits.ensures);
      few = s.few;
      room = omega arith;
      short = omega arith;
    }
