-- What is in a list, tests over lists, what is there among gaps, and the least number that passes a test.
use Rattle.std.specs.Prelude.{◌≡◌, ℕ, zero, suc, Bool, cond, ◌⊎◌, List, [], ◌∷◌, Some, None, Option}

-- x is in the list
abbrev pub Member : {X : Type 0} → X → List X → Type 0
Member x [] = ⊥
Member x (y ∷ ys) = (y ≡ x) ⊎ Member x ys

-- what is there, without the gaps
abbrev pub present : {X : Type 0} → List (Option X) → List X
present [] = []
present (None ∷ es) = present es
present (Some x ∷ es) = x ∷ present es

-- the least number up to n that passes; n where none does
abbrev pub least : (ℕ → Bool) → ℕ → ℕ
least p zero = zero
least p (suc n) = let r = least p n in cond (p r) r (suc n)
