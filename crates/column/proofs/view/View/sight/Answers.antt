use Rattle.std.proofs.Common.{[], subst}
use Rattle.column.specs.Naming.{setting_of}
use Rattle.column.specs.Sights.{Seen, whole}
use Rattle.column.proofs.Noting.{seen_none}
use Rattle.column.proofs.Parts.{given_part, part_within}
use Rattle.meaning.specs.Columns.{links_at, mark_at, marks_at}
use Rattle.column.proofs.view.View.sight.Goals as goal

pub loop-xs-init : goal.loop-xs-init
unfolding marks_at
loop-xs-init c readable =
    let w = setting_of c.args.self.now.naming.now in seen_none w.readings _ _ (c.groups.ensures readable)

pub loop-xs-preserved : goal.loop-xs-preserved
unfolding marks_at
loop-xs-preserved c readable =
    let w = setting_of c.args.self.now.naming.now in
    let k = c.args.self.now.column in
    let parts = c.args.parts.now in
    let i = c.loop-xs.xs-index in
    let l = c.loop-xs-test.true in
    subst (λ M. Seen w.readings (links_at w (whole parts) k) M c.add_marks.new.sight) (given_part (mark_at w k) (λ xs. xs.now) [] parts i _ l)
    (c.add_marks.ensures _ _ (λ x m. readable x (part_within (λ xs. xs.now) parts i _ l x m)) (c.loop-xs.invariant readable))
