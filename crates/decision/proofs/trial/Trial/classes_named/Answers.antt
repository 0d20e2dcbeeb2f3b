use Rattle.std.proofs.Common.{false, ◌||◌, [], ◌∷◌, ap, ◌∙◌}
use Rattle.std.proofs.lemmas.List.{get_or-replicate}
use Rattle.column.proofs.Seeing.{readable_first, readable_kept, readable_rest}
use Rattle.decision.specs.Looks.{is_named_in, leads}
use Rattle.decision.specs.Trials.{setting}
use Rattle.decision.proofs.Runs.{any_three}
use Rattle.meaning.specs.Fillings.{slot_of}
use Rattle.decision.proofs.trial.Trial.classes_named.Goals as goal

pub returns : goal.returns
returns c k l =
    let t = c.args.self.now in
    let w = setting t in
    let m = w.slots in
    let ys = t.kept.now in
    let zs = t.rest.now in
    c.note_classes-2.ensures k l (readable_rest w t.offered ys zs t.readable)
    ∙ ap (λ b. b || is_named_in m zs k) (c.note_classes.ensures k l (readable_kept w t.offered ys zs t.readable))
    ∙ ap (λ b. (b || is_named_in m ys k) || is_named_in m zs k) (c.note_class.ensures k l (readable_first w t.offered ys zs t.readable))
    ∙ ap (λ b. ((b || is_named_in m (t.offered ∷ []) k) || is_named_in m ys k) || is_named_in m zs k) (get_or-replicate 64 k false false l)
    ∙ any_three (λ x. leads m k (slot_of x)) t.offered ys zs
