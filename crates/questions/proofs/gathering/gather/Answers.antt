use Rattle.std.proofs.Common.{◌≡◌, true, map, sym, ap, ◌∙◌, subst, arith}
use Rattle.std.specs.List.{list_all}
use Rattle.std.proofs.lemmas.List.{take_all}
use Rattle.bounded.specs.Items.{items_of}
use Rattle.column.specs.Naming.{setting_of}
use Rattle.meaning.specs.Columns.{link_at}
use Rattle.questions.specs.Asked.{links_in}
use Rattle.questions.specs.Links.{is_inside}
use Rattle.questions.specs.Linking.{links_inside}
use Rattle.questions.proofs.gathering.gather.Goals as goal

pub invariant_of-result : goal.invariant_of-result
invariant_of-result c =
    let s = c.args.standing.now in
    let v = c.view_in-view in
    let xs = c.statements-x-items in
    let is : items_of c.loop-x.links ≡ links_in s c.args.column =
    c.loop-x.invariant
    ∙ ap (map (link_at (setting_of v.result.naming.now) v.result.column)) (take_all c.loop-x.x-index xs.result.now c.loop-x-test.false)
    ∙ (λ i. map (link_at (setting_of (v.ensures.naming i)) (v.ensures.column i)) (xs.ensures i)) in
    let inside = subst (λ links. list_all (is_inside s.tables) links ≡ true) (sym is) (links_inside s c.args.column) in
    record {
      few = omega (arith, s.few, c.tables.ensures);
      inside = subst (λ n. list_all (is_inside n) (items_of c.loop-x.links) ≡ true) (sym c.tables.ensures) inside;
    }
