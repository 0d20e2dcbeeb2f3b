-- What a value of Paired holds.
use Rattle.std.specs.Prelude.{ℕ, List, map, Some, Option}
use Rattle.bounded.specs.Items.{items_of}
use Rattle.paired.specs.declared.store.Paired.{Paired}
use Rattle.paired.specs.Pairings.{Pairings}

abbrev pub pairings_of : Paired → Pairings
pairings_of x = record { count = x.names; links = items_of x.pairs }

-- the pairings as a search reads them: each is a link
abbrev pub entries_of : Paired → List (Option (ℕ × ℕ))
entries_of x = map Some (pairings_of x).links
