-- What the definitions answer where a frame asks.
use Rattle.std.specs.Prelude.{ℕ, Bool, false, cond, ◌&&◌, ◌||◌, List, [], ◌∷◌, ◌++◌, length, drop, Some, None, Option, ◌==◌}
use Rattle.arrangement.specs.Meaning.{Meaning}
use Rattle.statement.specs.declared.Reading.{Reading}
use Rattle.statement.specs.declared.Statement.{Statement}
use Rattle.meaning.specs.Answers.{apart, cited, filling, told}
use Rattle.meaning.specs.Columns.{test}
use Rattle.meaning.specs.Fillings.{Setting}
use Rattle.frames.specs.declared.frame.Answer.{Answer}
use Rattle.frames.specs.declared.frame.Answer.TheVariants.{Taken, Finding, Free, Known, Differ, Numbers}
use Rattle.frames.specs.declared.frame.Frame.{Frame}
use Rattle.frames.specs.declared.frame.Names.{Names}
use Rattle.frames.specs.declared.frame.Opening.{Opening}
use Rattle.frames.specs.declared.frame.Question.{Question}
use Rattle.frames.specs.declared.frame.Question.TheVariants.{Enter, Told, Apart, Filling}

-- are these the two of the pair, either way round?
abbrev pub paired : Option (ℕ × ℕ) → ℕ → ℕ → Bool
paired None i j = false
paired (Some p) i j = (i == p.0 && j == p.1) || (i == p.1 && j == p.0)

-- a name is the same as itself, and the two of the pair are the same
abbrev pub meant : Names → Meaning
meant names = record { size = names.count; related = λ i j. (i == j) || paired names.pair i j }

abbrev pub setting_of : Opening → Setting
setting_of opening = record { slots = meant opening.slots; readings = meant opening.readings }

-- positions as a finding has them: 0 where there are fewer than two
abbrev pub padded : List ℕ → List ℕ
padded positions = positions ++ drop (length positions) (0 ∷ 0 ∷ [])

-- what is told, as an answer
abbrev pub heard : Option (Reading × ℕ) → Answer
heard None = Free
heard (Some known) = Known known.0 known.1

-- what the definitions answer where these statements stand: one that is entered is taken if it fits with them
abbrev pub answer_in : Opening → List Statement → Question → Answer
answer_in opening xs (Enter x) =
    let w = setting_of opening in
    cond (test w (x ∷ xs)) Taken (Finding (padded (cited w xs x)))
answer_in opening xs (Told a i) = heard (told (setting_of opening) xs a.0 i.0)
answer_in opening xs (Apart a b) = Differ (apart (setting_of opening) xs a.0 b.0)
answer_in opening xs Filling = Numbers (filling (setting_of opening) opening.tables xs)

-- what the definitions answer to the question of a row
abbrev pub given : Frame → Answer
given row = answer_in row.0.0 row.0.1.now row.1

-- the answer that the row expects
abbrev pub expected : Frame → Answer
expected row = row.2
