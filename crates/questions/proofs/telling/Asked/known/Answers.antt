use Rattle.std.proofs.Common.{◌∙◌}
use Rattle.questions.specs.Stands.{known_is}
use Rattle.questions.proofs.telling.Asked.known.Goals as goal

pub returns : goal.returns
returns c =
    let s = c.args.self.now in
    c.reading.ensures ∙ known_is s.standing.now s.column c.sight_in.result c.sight_in.ensures s.table s.below
