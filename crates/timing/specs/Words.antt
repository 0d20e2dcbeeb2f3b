-- The word that a program that measures may be given.
use Rattle.std.specs.Prelude.{ℕ, List, [], ◌∷◌}

-- `time`, letter by letter
abbrev pub time_word : List ℕ
time_word = 0x74 ∷ 0x69 ∷ 0x6D ∷ 0x65 ∷ []
