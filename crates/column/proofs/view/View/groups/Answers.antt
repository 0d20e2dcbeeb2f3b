use Rattle.std.proofs.Common.{[], subst}
use Rattle.column.specs.Naming.{setting_of}
use Rattle.column.proofs.Parts.{given_part, part_within}
use Rattle.links.specs.Groups.{Roots}
use Rattle.meaning.specs.Columns.{link_at, links_at}
use Rattle.column.proofs.view.View.groups.Goals as goal

pub loop-xs-init : goal.loop-xs-init
unfolding links_at
loop-xs-init c readable = c.new-groups.ensures

pub loop-xs-preserved : goal.loop-xs-preserved
unfolding links_at
loop-xs-preserved c readable =
    let w = setting_of c.args.self.now.naming.now in
    let parts = c.args.parts.now in
    let i = c.loop-xs.xs-index in
    let l = c.loop-xs-test.true in
    subst (λ L. Roots L c.add_links.new.groups.root) (given_part (link_at w c.args.self.now.column) (λ xs. xs.now) [] parts i _ l)
    (c.add_links.ensures _ (λ x m. readable x (part_within (λ xs. xs.now) parts i _ l x m)) (c.loop-xs.invariant readable))
