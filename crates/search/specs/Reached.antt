use Rattle.std.specs.Prelude.{ℕ}
use Rattle.search.specs.declared.entry.Reached.{Reached}

-- the record of a name and its distance
abbrev pub reached_at : ℕ → ℕ → Reached
reached_at y d = record { name = y; distance = d }
