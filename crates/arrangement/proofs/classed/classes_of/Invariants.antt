use Rattle.std.proofs.Common.{◌≡◌, ℕ, ◌<◌, length, get_or}
use Rattle.bounded.specs.Items.{items_of}
use Rattle.arrangement.specs.Meaning.{lowest}
use Rattle.arrangement.proofs.classed.classes_of.Given as goal

-- the lowest names of those before i are listed
abbrev pub invariant-loop-i : goal.invariant-loop-i
invariant-loop-i g l =
    (length (items_of l.lowest) ≡ l.i)
    × ((k : ℕ) → k < l.i → get_or (items_of l.lowest) k 0 ≡ lowest (g.A.Arrangement.meaning l.a) k)
