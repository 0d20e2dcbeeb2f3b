use Rattle.links.proofs.Fewest.{nearest, short}
use Rattle.links.proofs.Reach.{joined_finds, joined_self, joined_through, joined_turn, within_finds}
use Rattle.links.proofs.Roots.{lowest_back, lowest_same}
use Rattle.links.proofs.joining.chains_found.Goals as goal

pub returns : goal.returns
returns c = record {
  near = within_finds;
  any = joined_finds;
  reflexive = joined_self;
  symmetric = joined_turn;
  transitive = joined_through;
  lowest = λ links a b. (λ e. (joined_finds links a b).0 (lowest_back links a b e), λ r. lowest_same links a b ((joined_finds links a b).1 r));
  nearest = nearest;
  short = short;
}
