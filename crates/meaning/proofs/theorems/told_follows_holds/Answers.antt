use Rattle.meaning.proofs.Telling.{told_follows}
use Rattle.meaning.proofs.theorems.told_follows_holds.Goals as goal

pub returns : goal.returns
returns c = told_follows
