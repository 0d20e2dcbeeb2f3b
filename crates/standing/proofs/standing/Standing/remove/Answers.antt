use Rattle.std.proofs.Common.{length, vec_items, sym, refl, ap, ◌∙◌, arith}
use Rattle.std.proofs.lemmas.Option.{slice_get_read}
use Rattle.standing.specs.Stands.{stands_of, with_statements}
use Rattle.standing.proofs.Changes.{omit_beyond, omitted_stands, removed_omit}
use Rattle.standing.proofs.standing.Standing.remove.Goals as goal

pub returns-then-k-len-clause-holds : goal.returns-then-k-len-clause-holds
returns-then-k-len-clause-holds c =
    ap (with_statements (stands_of c.args.self.now)) (sym (omit_beyond c.args.k (vec_items c.args.self.now.list) (omega arith)))

pub invariant_of-self : goal.invariant_of-self
invariant_of-self c =
    let s = c.args.self.now in
    let k = c.args.k in
    let xs = vec_items s.list in
    record {
      stands = rw (c.remove.ensures.items, removed_omit k xs) (omitted_stands s.tables s.naming k xs s.stands);
      few = s.few;
      room = omega arith;
      short = omega arith;
    }

pub returns : goal.returns
returns c =
    let k = c.args.k in
    let xs = vec_items c.args.self.now.list in
    record {
      answer = sym (slice_get_read xs (length xs) k c.remove.result refl (omega arith) c.remove.ensures.value);
      holds = ap (with_statements (stands_of c.args.self.now)) (c.remove.ensures.items ∙ removed_omit k xs);
    }
