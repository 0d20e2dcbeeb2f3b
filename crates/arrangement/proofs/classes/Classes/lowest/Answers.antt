use Rattle.std.proofs.Common.{◌∙◌}
use Rattle.arrangement.specs.Kept.{looked_up}
use Rattle.arrangement.proofs.classes.Classes.lowest.Goals as goal

pub returns : goal.returns
returns c = c.get.ensures ∙ looked_up c.args.self.now c.args.i
