-- Each turn keeps one statement more and adds its position.
use Rattle.std.proofs.Common.{◌≡◌, ◌+◌, ◌<◌, [], ◌∷◌, ◌++◌, length, get_or, sym, ap, ◌∙◌, arith}
use Rattle.std.proofs.lemmas.List.{length-drop, length_push, take_rest}
use Rattle.std.proofs.lemmas.Bool.{cond-true, lt-ltb}
use Rattle.bounded.specs.Items.{items_of}
use Rattle.decision.specs.Citations.{citation}
use Rattle.decision.specs.Trials.{setting}
use Rattle.decision.proofs.Blaming.{blaming_all, blaming_more, blaming_none, lent_readable, readable_rest}
use Rattle.decision.proofs.trial.Trial.blame.Goals as goal

pub loop-i-init : goal.loop-i-init
loop-i-init c =
    let t = c.args.self.now in
    record {
      many = omega (arith, ap length c.new-positions.ensures);
      kept = omega (arith, ap length c.new-kept.ensures);
      within = omega arith;
      blaming = blaming_none (setting t) t.offered t.rest.now _ _ c.requires.fails c.new-positions.ensures c.new-kept.ensures;
    }

pub invariant_of-next_to_blame : goal.invariant_of-next_to_blame
invariant_of-next_to_blame c =
    let t = c.args.self.now in
    record {
      readable = lent_readable t.naming.now t.offered t.rest.now (readable_rest (setting t) t.offered t.kept.now t.rest.now t.readable)
          _ _ c.loop-i.p c.loop-i.invariant.blaming _ c.as_slice.ensures;
    }

pub loop-i-preserved : goal.loop-i-preserved
loop-i-preserved c =
    let t = c.args.self.now in
    let w = setting t in
    let p = c.loop-i.p in
    let i = c.in-Some.i in
    let list = t.rest.now in
    let inv = c.loop-i.invariant in
    let l : p + i < length list = omega (arith, simp (take_rest list p, length-drop) at c.in-Some.ensures.within) in
    let kept : items_of c.push.new.self ≡ items_of c.loop-i.kept ++ get_or list (p + i) _ ∷ [] =
    c.push.ensures.holds ∙ cond-true _ _ _ (lt-ltb (length (items_of c.loop-i.kept)) 512 (omega arith)) in
    let positions : items_of c.push-in-Some.new.self ≡ items_of c.loop-i.positions ++ (p + (i + 1)) ∷ [] =
    c.push-in-Some.ensures.holds ∙ cond-true _ _ _ (lt-ltb (length (items_of c.loop-i.positions)) 512 (omega arith)) in
    record {
      many = omega (arith, simp length_push at (ap length positions));
      kept = omega (arith, simp length_push at (ap length kept));
      within = omega arith;
      blaming = rw (positions, kept)
          (blaming_more t.naming.now t.offered list (readable_rest w t.offered t.kept.now list t.readable) _ _ p inv.blaming
          _ c.as_slice.ensures i _ l c.in-Some.ensures.turns);
    }

pub returns : goal.returns
returns c =
    let t = c.args.self.now in
    c.citation_of.ensures
    ∙ ap citation
    (sym (blaming_all t.naming.now t.offered t.rest.now (readable_rest (setting t) t.offered t.kept.now t.rest.now t.readable) _ _
    c.loop-i.p c.loop-i.invariant.blaming _ c.as_slice.ensures c.in_default.ensures.turns))
