-- One pair of names laid over an arrangement: what it means, and how it is set.
use Rattle.std.specs.Prelude.{ℕ, Bool, false, cond, ◌&&◌, ◌||◌, is_some, Some, None, Ok, Err, Option, Result, nat_lt}
use Rattle.arrangement.specs.declared.refusal.Refusal.{Refusal}
use Rattle.arrangement.specs.declared.refusal.Refusal.TheVariants.{NameNotBelowCount, PairAlreadySet}
use Rattle.arrangement.specs.Meaning.{Meaning, same}

-- is i the same as p, and j the same as q?
abbrev pub meets : Meaning → ℕ → ℕ → ℕ → ℕ → Bool
meets m p q i j = same m i p && same m j q

-- does the pair lead from i to j, one way round or the other?
abbrev pub across : Meaning → Option (ℕ × ℕ) → ℕ → ℕ → Bool
across m None i j = false
across m (Some pair) i j = meets m pair.0 pair.1 i j || meets m pair.1 pair.0 i j

-- names are the same where they are so below, or the pair leads from one to the other
abbrev pub joined_meaning : Meaning → Option (ℕ × ℕ) → Meaning
joined_meaning m pair = record { size = m.size; related = λ i j. same m i j || across m pair i j }

-- what is answered to a pair, where there are so many names and perhaps a pair already
abbrev pub pair_answer : ℕ → Option (ℕ × ℕ) → ℕ → ℕ → Result (Unit {0}) Refusal
pair_answer size pair p q =
    cond (nat_lt p size && nat_lt q size) (cond (is_some pair) (Err PairAlreadySet) (Ok tt)) (Err NameNotBelowCount)

-- the pair that is set after that
abbrev pub pair_after : ℕ → Option (ℕ × ℕ) → ℕ → ℕ → Option (ℕ × ℕ)
pair_after size (Some before) p q = Some before
pair_after size None p q = cond (nat_lt p size && nat_lt q size) (Some (p, q)) None
