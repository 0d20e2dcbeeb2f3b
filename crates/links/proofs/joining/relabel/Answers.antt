use Rattle.std.proofs.Common.{get_or, set, ap, ◌∙◌, arith}
use Rattle.std.proofs.lemmas.List.Edits.{map_over_more}
use Rattle.std.proofs.lemmas.List.{get_or_default}
use Rattle.links.specs.Groups.{label_for}
use Rattle.links.proofs.joining.relabel.Goals as goal

pub loop-label-preserved : goal.loop-label-preserved
loop-label-preserved c =
    let i = c.loop-label.label-index in
    let labels = c.loop-label.labels in
    let here = get_or_default labels i 0 (get_or labels i 0) (omega (arith, c.loop-label.auto.labels)) in
    ap (set labels i) c.label_for.ensures ∙ map_over_more (label_for c.args.old c.args.new) c.args.labels.now labels i (get_or labels i 0) c.loop-label-test.true c.loop-label.invariant here
