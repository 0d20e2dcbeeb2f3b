use Rattle.std.proofs.Common.{ap, ◌∙◌}
use Rattle.std.specs.Option.{option_flatten}
use Rattle.bounded.specs.Items.{items_of}
use Rattle.questions.specs.Linking.{link_here}
use Rattle.questions.proofs.gathering.GatheredLinks.link.Goals as goal

pub returns : goal.returns
returns c = c.flatten.ensures ∙ ap option_flatten c.get.ensures ∙ link_here (items_of c.args.self.now.links) c.args.k
