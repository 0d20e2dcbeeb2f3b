-- A table of distances.
use Rattle.std.specs.Prelude.{ℕ, suc, List, [], ◌∷◌, Some, None, Option, replicate, slice_index_or}

-- what the table says of a name: none where it is not reached yet
abbrev pub at : List (Option ℕ) → ℕ → Option ℕ
at known y = slice_index_or known y None

-- how many names are not reached yet
abbrev pub unknowns : List (Option ℕ) → ℕ
unknowns [] = 0
unknowns (None ∷ ds) = suc (unknowns ds)
unknowns (Some d ∷ ds) = unknowns ds

-- the table in which nothing is reached
abbrev pub blank : List (Option ℕ)
blank = replicate 128 None
