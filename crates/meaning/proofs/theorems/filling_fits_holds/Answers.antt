use Rattle.meaning.proofs.Writing.{filling_fits}
use Rattle.meaning.proofs.theorems.filling_fits_holds.Goals as goal

pub returns : goal.returns
returns c = filling_fits
