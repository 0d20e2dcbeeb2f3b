use Rattle.std.proofs.Common.{false, rules, tests}
use Rattle.arrangement.specs.Meaning.{same}
use Rattle.paired.specs.Held.{pairings_of}
use Rattle.paired.specs.Pairings.{meaning_of}
use Rattle.listing.specs.Classes.{members_of}
use Rattle.listing.proofs.Filled.{filled}
use Rattle.listing.proofs.classing.members.Goals as goal

pub returns : goal.returns
unfolding members_of
returns c = filled _ _ (same (meaning_of (pairings_of c.args.names.now)) c.args.name) (λ i y q k. search (rules, tests)) c.from_fn.result 64 false c.from_fn.ensures.items
