use Rattle.std.proofs.Common.{sym, subst}
use Rattle.column.specs.Naming.{setting_of}
use Rattle.column.specs.Sights.{Seen}
use Rattle.column.proofs.Parts.{given_more, given_none, member_at}
use Rattle.meaning.specs.Columns.{mark_at, marks_at}
use Rattle.column.proofs.view.View.add_marks.Goals as goal

pub loop-x-init : goal.loop-x-init
unfolding marks_at
loop-x-init c links marks readable seen =
    let w = setting_of c.args.self.now.naming.now in
    subst (λ l. Seen w.readings links l c.args.sight.now) (sym (given_none (mark_at w c.args.self.now.column) marks)) seen

pub loop-x-preserved : goal.loop-x-preserved
unfolding marks_at
loop-x-preserved c links marks readable seen =
    let w = setting_of c.args.self.now.naming.now in
    subst (λ l. Seen w.readings links l c.add_mark.new.sight)
    (given_more (mark_at w c.args.self.now.column) marks c.args.xs.now c.loop-x.x-index _ c.loop-x-test.true)
    (c.add_mark.ensures links _ (readable _ (member_at c.args.xs.now c.loop-x.x-index _ c.loop-x-test.true))
    (c.loop-x.invariant links marks readable seen))
