use Rattle.std.proofs.Common.{false, ◌||◌, [], ◌∷◌, get_or, ap, ◌∙◌}
use Rattle.column.specs.Naming.{setting_of}
use Rattle.column.proofs.Parts.{member_at}
use Rattle.decision.specs.Looks.{is_named_in, leads}
use Rattle.decision.proofs.Looked.{readable_one}
use Rattle.decision.proofs.Runs.{any_more}
use Rattle.meaning.specs.Fillings.{slot_of}
use Rattle.decision.proofs.looking.note_classes.Goals as goal

pub loop-x-preserved : goal.loop-x-preserved
loop-x-preserved c k l readable =
    let w = setting_of c.args.naming.now in
    let xs = c.args.xs.now in
    let x = get_or xs c.loop-x.x-index _ in
    c.note_class.ensures k l (readable_one w xs x readable (member_at xs c.loop-x.x-index _ c.loop-x-test.true))
    ∙ ap (λ b. b || is_named_in w.slots (x ∷ []) k) (c.loop-x.invariant k l readable)
    ∙ any_more (λ x. leads w.slots k (slot_of x)) (get_or c.args.named.now k false) xs c.loop-x.x-index _ c.loop-x-test.true
