-- The numbers by which the refusals of arrangements are reported.
use Rattle.std.specs.Prelude.{ℕ}
use Rattle.arrangement.specs.declared.refusal.Refusal.{Refusal}
use Rattle.arrangement.specs.declared.refusal.Refusal.TheVariants.{TooManyNames, NameNotBelowCount, PairAlreadySet, TooManyPairings}

abbrev pub number_of : Refusal → ℕ
number_of TooManyNames = 21
number_of NameNotBelowCount = 22
number_of PairAlreadySet = 23
number_of TooManyPairings = 24
