use Rattle.meaning.proofs.Blame.{parts_fit}
use Rattle.meaning.proofs.theorems.parts_fit_holds.Goals as goal

pub returns : goal.returns
returns c = parts_fit
