use Rattle.std.proofs.Common.{false, refl, ap, ◌∙◌}
use Rattle.std.proofs.lemmas.List.{get_or-replicate, take_all}
use Rattle.std.specs.List.{list_any}
use Rattle.column.specs.Naming.{setting_of}
use Rattle.questions.proofs.Marking.{bears_any, noted_more}
use Rattle.questions.proofs.marked.Marked.of.Goals as goal

pub loop-x-init : goal.loop-x-init
loop-x-init c = (refl, λ t l. get_or-replicate 256 t false false l)

pub loop-x-preserved : goal.loop-x-preserved
loop-x-preserved c =
    let v = c.args.view in
    (c.note_mark.array_long, λ t l. noted_more (setting_of v.naming.now) v.column t _ _ c.args.list.now c.loop-x.x-index _ c.loop-x-test.true (c.note_mark.ensures t l) (c.loop-x.invariant.1 t l))

pub invariant_of-result : goal.invariant_of-result
invariant_of-result c =
    let v = c.args.view in
    let xs = c.args.list.now in
    record {
      long = c.loop-x.invariant.0;
      noted = λ t l. c.loop-x.invariant.1 t l ∙ ap (list_any _) (take_all c.loop-x.x-index xs c.loop-x-test.false) ∙ bears_any (setting_of v.naming.now) v.column t xs;
    }
