use Rattle.std.proofs.Common.{◌∙◌}
use Rattle.bounded.specs.Items.{items_of}
use Rattle.paired.specs.Entries.{entry_at}
use Rattle.paired.proofs.why.PairedLinks.link.Goals as goal

pub returns : goal.returns
returns c = c.get.ensures ∙ entry_at (items_of c.args.self.now.pairs) c.args.k
