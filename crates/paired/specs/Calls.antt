-- Pairings after any list of calls.
use Rattle.std.specs.Prelude.{ℕ, List, [], ◌∷◌}
use Rattle.paired.specs.Pairings.{Pairings, with_count, with_pair}

-- the calls that may change the pairings
pub data Call : Type 0 where
  set_count : ℕ → Call
  pair_up : ℕ → ℕ → Call

abbrev pub step : Pairings → Call → Pairings
step p (set_count n) = with_count p n
step p (pair_up i j) = with_pair p i j

abbrev pub run : Pairings → List Call → Pairings
run p [] = p
run p (c ∷ cs) = run (step p c) cs
