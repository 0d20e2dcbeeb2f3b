use Rattle.std.proofs.Common.{◌&&◌, sym, ap, ◌∙◌}
use Rattle.std.proofs.lemmas.Bool.{eqb-true}
use Rattle.arrangement.specs.Meaning.{lowest}
use Rattle.meaning.proofs.ColumnList.{has_at}
use Rattle.meaning.specs.Columns.{at}
use Rattle.questions.specs.Asked.{setting_in, unlike_at}
use Rattle.questions.proofs.comparing.Couple.is_unlike_class.Goals as goal

pub returns-then-is_lowest : goal.returns-then-is_lowest
returns-then-is_lowest c lc =
    let s = c.args.self.now.standing.now in
    let w = setting_in s in
    let root = sym (c.if-is_lowest.ensures lc) in
    c.are_unlike.ensures (has_at w c.args.c lc (eqb-true (lowest w.slots c.args.c) c.args.c root))
    ∙ ap (λ b. b && unlike_at s c.args.self.now.a c.args.self.now.b (at c.args.c)) (sym root)
