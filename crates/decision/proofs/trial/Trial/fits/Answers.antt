-- The classes that no statement names look as elsewhere, and the others were looked at.
use Rattle.std.proofs.Common.{◌<◌, refl, sym, ◌∙◌, arith, length-set}
use Rattle.std.proofs.lemmas.List.{set-get_or}
use Rattle.decision.specs.Trials.{setting, tried}
use Rattle.decision.proofs.Looked.{loud_at, loud_elsewhere, seen_set, seen_skip, seen_start}
use Rattle.decision.proofs.Outcome.{loud_fails}
use Rattle.decision.proofs.trial.Trial.fits.Goals as goal
use Rattle.decision.proofs.trial.Trial.fits.Goals.{then-named-c+else-clashes-2, else-named-c}

pub returns-then-clashes : goal.returns-then-clashes
returns-then-clashes c =
    let t = c.args.self.now in
    loud_fails (setting t) (tried t) (loud_elsewhere t c.sight-elsewhere.result c.sight-elsewhere.ensures (sym c.if-clashes.ensures))

pub loop-c-init : goal.loop-c-init
loop-c-init c = record {
  long = refl;
  below = seen_start c.args.self.now c.sight-elsewhere.result c.sight-elsewhere.ensures (sym c.if-clashes.ensures);
}

pub returns-then-clashes-2 : goal.returns-then-clashes-2
returns-then-clashes-2 c =
    let t = c.args.self.now in
    let k = c.loop-c.c in
    loud_fails (setting t) (tried t)
    (loud_at t k (sym (c.classes_named-named.ensures k (omega arith)) ∙ c.if-named-c.true) c.sight.result c.sight.ensures
    (sym c.if-clashes-2.ensures))

pub loop-c-preserved : goal.loop-c-preserved
loop-c-preserved c =
    let t = c.args.self.now in
    let k = c.loop-c.c in
    let small : k < 64 = omega arith in
    let below = c.loop-c.invariant.below in
    elim c.if-named-c.branch [
      | then-named-c+else-clashes-2 w ↦ record {
        long = rw w.seen-items-is (simp length-set c.loop-c.invariant.long);
        below = rw w.seen-items-is
            (seen_set t c.sight-elsewhere.result c.sight-elsewhere.ensures (sym c.if-clashes.ensures) k c.loop-c.seen-items below small
            c.loop-c.invariant.long w.sight.result w.sight.ensures (sym w.if-clashes-2.ensures)
            (sym (c.classes_named-named.ensures k small) ∙ w.if-named-c.true));
      }
      | else-named-c w ↦ record {
        long = rw (w.seen-items-is, set-get_or) c.loop-c.invariant.long;
        below = rw (w.seen-items-is, set-get_or)
            (seen_skip t c.sight-elsewhere.result c.sight-elsewhere.ensures (sym c.if-clashes.ensures) k c.loop-c.seen-items below small
            (sym (c.classes_named-named.ensures k small) ∙ w.if-named-c.false));
      }
    ]
