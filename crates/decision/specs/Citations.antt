-- What is cited, and the search for the next statement to blame.
use Rattle.std.specs.Prelude.{◌≡◌, ℕ, ◌+◌, ◌-◌, Bool, true, false, cond, ◌&&◌, List, [], ◌∷◌, ◌++◌, length, drop, replicate, Some, None, Option, nat_le}
use Rattle.statement.specs.declared.Statement.{Statement}
use Rattle.meaning.specs.Answers.{cited}
use Rattle.meaning.specs.Columns.{test}
use Rattle.meaning.specs.Fillings.{Setting}
use Rattle.column.specs.Sights.{is_readable}
use Rattle.decision.specs.declared.citation.Citation.{Citation}

-- the positions, with zeros up to the room that a citation has
abbrev pub padded : List ℕ → List ℕ
padded ps = ps ++ replicate (512 - length ps) 0

-- what cites these positions
abbrev pub citation : List ℕ → Citation
citation ps = record { count = length ps; positions = padded ps }

-- do these fit with the offered statement?
abbrev pub fitting : Setting → Statement → List Statement → Bool
fitting w offered ys = test w (offered ∷ ys)

-- the rest from place i on does not fit with those kept, and from the next place on it does
pub record Turns {X : Type 0} (fits : List X → Bool) (kept rest : List X) (i : ℕ) : Type 0 where
  pub fails : fits (kept ++ drop i rest) ≡ false
  pub passes : fits (kept ++ drop (i + 1) rest) ≡ true

-- what is found of the rest: the place where it turns, or none where those kept do not fit by themselves
abbrev pub Found : {X : Type 0} → (List X → Bool) → List X → List X → Option ℕ → Type 0
Found fits kept rest None = fits (kept ++ []) ≡ false
Found fits kept rest (Some i) = Turns fits kept rest i

-- what is cited: nothing of a list that is too long, or where a name is not below the counts
abbrev pub cited_answer : Setting → List Statement → Statement → Citation
cited_answer w list offered =
    citation (cond (nat_le (length list) 512 && is_readable w (offered ∷ list)) (cited w list offered) [])
