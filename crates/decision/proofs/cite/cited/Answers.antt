-- Where all fit, each can stay.
use Rattle.std.proofs.Common.{◌≡◌, true, false, ◌&&◌, nat_le, ◌∷◌, length, sym, ap, ◌∙◌, arith}
use Rattle.std.proofs.lemmas.Bool.{and_from, and_left, and_right, cond-false, cond-true, le-leb, lt-leb}
use Rattle.column.specs.Naming.{setting_of}
use Rattle.column.specs.Sights.{is_readable}
use Rattle.decision.specs.Citations.{citation}
use Rattle.decision.proofs.Blaming.{cited_all}
use Rattle.decision.proofs.Looked.{readable_has}
use Rattle.decision.proofs.cite.cited.Goals as goal
use Rattle.decision.proofs.cite.cited.Goals.{then-list-gt-MOST-via-then-list-gt-MOST, then-list-gt-MOST-via-else-list-gt-MOST+then-not-is_readable}

pub returns-then-list-gt-MOST : goal.returns-then-list-gt-MOST
returns-then-list-gt-MOST c =
    let w = setting_of c.args.naming.now in
    let list = c.args.list.now in
    let none : (nat_le (length list) 512 && is_readable w (c.args.offered ∷ list)) ≡ false =
    elim c.then-list-gt-MOST.branch [
      | then-list-gt-MOST-via-then-list-gt-MOST b ↦ and_left _ _ (lt-leb (length list) 512 b.if-list-gt-MOST.true)
      | then-list-gt-MOST-via-else-list-gt-MOST+then-not-is_readable b ↦ and_right _ _ (sym b.is_readable.ensures ∙ b.if-not-is_readable.true)
    ] in
    c.all.ensures ∙ ap citation (sym (cond-false _ _ _ none))

pub invariant_of-trial : goal.invariant_of-trial
invariant_of-trial c = record {
  readable = readable_has (setting_of c.args.naming.now) (c.args.offered ∷ c.args.list.now)
      (sym c.is_readable.ensures ∙ c.if-not-is_readable.false);
}

pub returns-then-fits : goal.returns-then-fits
returns-then-fits c =
    let w = setting_of c.args.naming.now in
    let list = c.args.list.now in
    let read : is_readable w (c.args.offered ∷ list) ≡ true = sym c.is_readable.ensures ∙ c.if-not-is_readable.false in
    c.all-then-fits.ensures
    ∙ ap citation
    (sym (cond-true _ _ _ (and_from _ _ (le-leb (length list) 512 (omega arith)) read)
    ∙ cited_all c.args.naming.now c.args.offered list (readable_has w (c.args.offered ∷ list) read) (sym c.if-fits.ensures)))
