use Rattle.std.proofs.Common.{ap, ◌∙◌}
use Rattle.decision.specs.Citations.{citation}
use Rattle.decision.proofs.Padding.{written}
use Rattle.decision.proofs.cite.citation_of.Goals as goal

pub returns : goal.returns
returns c = written c.as_slice-list.result.now _ c.copy_from_slice.ensures.after ∙ ap citation c.as_slice-list.ensures
