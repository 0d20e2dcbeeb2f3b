-- What one turn of the search does to the table of distances and to what waits.
use Rattle.std.specs.Prelude.{ℕ, cond, List, [], ◌∷◌, ◌++◌, Some, None, Option, is_some, slice_set}
use Rattle.search.specs.Entries.{across}
use Rattle.search.specs.Tables.{at}

-- the table and what waits
pub record Walk (E : Type 0) : Type 0 where
  pub known : List (Option ℕ)
  pub wait : List E

abbrev pub walk : {E : Type 0} → List (Option ℕ) → List E → Walk E
walk known wait = record { known = known; wait = wait }

-- y is reached by d links, unless it was reached before
abbrev pub noted : {E : Type 0} → (ℕ → ℕ → E) → ℕ → ℕ → Walk E → Walk E
noted made y d w = cond (is_some (at w.known y)) w (walk (slice_set w.known y (Some d)) (w.wait ++ (made y d ∷ [])))

abbrev pub noted_if : {E : Type 0} → (ℕ → ℕ → E) → Option ℕ → ℕ → Walk E → Walk E
noted_if made None d w = w
noted_if made (Some y) d w = noted made y d w

-- each name that a link joins to x is reached by d links, unless it was reached before
abbrev pub visited : {E : Type 0} → (ℕ → ℕ → E) → ℕ → ℕ → List (Option (ℕ × ℕ)) → Walk E → Walk E
visited made x d [] w = w
visited made x d (e ∷ es) w = visited made x d es (noted_if made (across e x) d w)
