-- What a line of those who wait becomes.
use Rattle.std.specs.Prelude.{ℕ, cond, List, [], ◌∷◌, ◌++◌, Some, None, Option, nat_lt}

-- one more at the end, where there is room
abbrev pub pushed : {E : Type 0} → ℕ → List E → E → List E
pushed room waiting e = cond (nat_lt 0 room) (waiting ++ (e ∷ [])) waiting

abbrev pub first_of : {E : Type 0} → List E → Option E
first_of [] = None
first_of (e ∷ es) = Some e

abbrev pub rest_of : {E : Type 0} → List E → List E
rest_of [] = []
rest_of (e ∷ es) = es
