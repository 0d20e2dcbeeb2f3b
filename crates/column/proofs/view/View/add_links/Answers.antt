use Rattle.std.proofs.Common.{sym, subst}
use Rattle.column.specs.Naming.{setting_of}
use Rattle.column.proofs.Parts.{given_more, given_none, member_at}
use Rattle.links.specs.Groups.{Roots}
use Rattle.meaning.specs.Columns.{link_at, links_at}
use Rattle.column.proofs.view.View.add_links.Goals as goal

pub loop-x-init : goal.loop-x-init
unfolding links_at
loop-x-init c links readable roots =
    subst (λ l. Roots l c.args.groups.now.root) (sym (given_none (link_at (setting_of c.args.self.now.naming.now) c.args.self.now.column) links)) roots

pub loop-x-preserved : goal.loop-x-preserved
unfolding links_at
loop-x-preserved c links readable roots =
    let f = link_at (setting_of c.args.self.now.naming.now) c.args.self.now.column in
    subst (λ l. Roots l c.add_link.new.groups.root)
    (given_more f links c.args.xs.now c.loop-x.x-index _ c.loop-x-test.true)
    (c.add_link.ensures _ (readable _ (member_at c.args.xs.now c.loop-x.x-index _ c.loop-x-test.true))
    (c.loop-x.invariant links readable roots))
