-- The answer, from that of the arrangement below.
use Rattle.std.proofs.Common.{true, false, ◌∙◌}
use Rattle.arrangement.specs.Joins.{joined_or}
use Rattle.arrangement.proofs.joined.JoinedArrangement.same.Goals as goal

pub returns-then-same : goal.returns-then-same
returns-then-same g c =
    c.if-same.true ∙ joined_or _ c.args.self.now.pair c.args.i c.args.j true c.if-same.ensures

pub returns-else-same : goal.returns-else-same
returns-else-same g c =
    c.across.ensures ∙ joined_or _ c.args.self.now.pair c.args.i c.args.j false c.if-same.ensures
