use Rattle.std.proofs.Common.{◌≡◌, [], ◌∷◌, ◌++◌, sym, ◌∙◌, subst}
use Rattle.std.proofs.lemmas.Bool.{cond-true, lt-ltb}
use Rattle.arrangement.specs.Meaning.{lowest}
use Rattle.arrangement.specs.Kept.{lawful}
use Rattle.column.specs.Naming.{setting_of}
use Rattle.column.specs.Sights.{Seen}
use Rattle.column.proofs.Seeing.{mark_below, seen_marked}
use Rattle.links.specs.Lists.{present}
use Rattle.meaning.proofs.Lists.{some_inj}
use Rattle.column.proofs.view.View.add_mark.Goals as goal

pub returns : goal.returns
returns c links marks within seen =
    let w = setting_of c.args.self.now.naming.now in
    let t = c.in-Some.table in
    let v = c.in-Some.v in
    let below = mark_below w c.args.x within (t, v) c.args.self.now.column (sym c.in-Some.ensures) in
    let low : c.in-Some-lowest.reading ≡ lowest w.readings v =
    some_inj (c.in-Some-lowest.ensures ∙ cond-true _ _ _ (lt-ltb v w.readings.size below.1)) in
    subst (λ o. Seen w.readings links (marks ++ present (o ∷ [])) c.add_mark.new.self) c.in-Some.ensures
    (seen_marked w.readings (lawful c.args.self.now.naming.now.readings) links marks c.args.sight.now c.add_mark.new.self seen
    t v c.in-Some-lowest.reading below.0 below.1 low
    c.add_mark.ensures.groups c.add_mark.ensures.marks c.add_mark.ensures.clash)
