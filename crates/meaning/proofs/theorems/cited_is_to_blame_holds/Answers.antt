use Rattle.meaning.proofs.Blame.{cited_is_to_blame}
use Rattle.meaning.proofs.theorems.cited_is_to_blame_holds.Goals as goal

pub returns : goal.returns
returns c = cited_is_to_blame
