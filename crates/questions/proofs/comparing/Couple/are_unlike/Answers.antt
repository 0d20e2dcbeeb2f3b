use Rattle.std.proofs.Common.{not, ap, ◌∙◌}
use Rattle.questions.specs.Stands.{alike_at_lem}
use Rattle.questions.proofs.comparing.Couple.are_unlike.Goals as goal

pub returns : goal.returns
returns c m =
    let s = c.args.self.now in
    ap not (c.are_alike.ensures
    ∙ alike_at_lem s.standing.now c.args.column c.sight_in.result c.sight_in.ensures s.a s.b s.first s.second m)
