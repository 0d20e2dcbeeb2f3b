-- Entries, of which some are no link, and what a search of them answers.
use Rattle.std.specs.Prelude.{ℕ, ◌<◌, Bool, cond, List, IfSome, Some, None, Option, ◌==◌, nat_lt}
use Rattle.links.specs.Chains.{fewest}

-- both ends of the entry, if it is a link, are below n
abbrev pub Inside : ℕ → Option (ℕ × ℕ) → Type 0
Inside n e = IfSome e (λ p. (p.0 < n) × (p.1 < n))

-- the other end of a link at x
abbrev pub across : Option (ℕ × ℕ) → ℕ → Option ℕ
across None x = None
across (Some p) x = cond (p.0 == x) (Some p.1) (cond (p.1 == x) (Some p.0) None)

-- the fewest links that lead from a name to a goal; from what is no name nothing leads anywhere
abbrev pub searched : ℕ → List (ℕ × ℕ) → (ℕ → Bool) → ℕ → Option ℕ
searched count links goal from = cond (nat_lt from count) (fewest links goal from) None
