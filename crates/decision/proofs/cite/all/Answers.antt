use Rattle.std.proofs.Common.{◌≡◌, ◌+◌, ◌-◌, ◌<◌, ◌++◌, [], ◌∷◌, length, sym, ap, ◌∙◌, arith}
use Rattle.std.specs.List.{range_with_len}
use Rattle.std.proofs.lemmas.List.FromFn.{length-range_with_len}
use Rattle.std.proofs.lemmas.Bool.{cond-true, lt-ltb}
use Rattle.bounded.specs.Items.{items_of}
use Rattle.decision.proofs.Padding.{counting_more}
use Rattle.decision.proofs.cite.all.Goals as goal

pub loop-position-preserved : goal.loop-position-preserved
loop-position-preserved c =
    let p = c.loop-position.position in
    let e : (p - 1) + 1 ≡ (p + 1) - 1 = omega arith in
    let room : length (items_of c.loop-position.positions) < 512 =
    omega (arith, ap length c.loop-position.invariant, length-range_with_len 1 (p - 1)) in
    c.push.ensures.holds ∙ cond-true _ _ _ (lt-ltb (length (items_of c.loop-position.positions)) 512 room)
    ∙ ap (λ ps. ps ++ p ∷ []) c.loop-position.invariant ∙ sym (counting_more 1 (p - 1) p (omega arith)) ∙ ap (range_with_len 1) e
