-- Links with gaps, below a count.
use Rattle.std.specs.Prelude.{ℕ, Bool, true, ◌&&◌, Some, None, Option, nat_lt}

-- are both ends of the entry, if it is a link, below n?
abbrev pub is_inside : ℕ → Option (ℕ × ℕ) → Bool
is_inside n None = true
is_inside n (Some p) = nat_lt p.0 n && nat_lt p.1 n
