use Rattle.meaning.proofs.Parting.{apart_is_greatest}
use Rattle.meaning.proofs.theorems.apart_is_greatest_holds.Goals as goal

pub returns : goal.returns
returns c = apart_is_greatest
