use Rattle.meaning.proofs.Deciding.{columns_decide}
use Rattle.meaning.proofs.theorems.columns_decide_holds.Goals as goal

pub returns : goal.returns
returns c = columns_decide
