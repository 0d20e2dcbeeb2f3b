use Rattle.std.proofs.Common.{vec_items, arith}
use Rattle.standing.proofs.Changes.{more_stands}
use Rattle.standing.proofs.standing.Standing.open.Goals as goal

pub invariant_of-self : goal.invariant_of-self
invariant_of-self c =
    let s = c.args.self.now in
    record {
      stands = more_stands s.tables s.naming c.args.tables (omega arith) (vec_items s.list) s.stands;
      few = omega arith;
      room = s.room;
      short = s.short;
    }
