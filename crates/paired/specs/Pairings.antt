-- What pairings mean: two names are the same exactly when a chain of pairings joins them.
use Rattle.std.specs.Prelude.{ℕ, Bool, cond, ◌&&◌, List, [], ◌∷◌, ◌++◌, length, Some, None, Ok, Err, Option, Result, nat_eq, nat_lt}
use Rattle.links.specs.Chains.{fewest, joined}
use Rattle.arrangement.specs.Meaning.{Meaning}
use Rattle.arrangement.specs.declared.refusal.Refusal.{Refusal}
use Rattle.arrangement.specs.declared.refusal.Refusal.TheVariants.{TooManyNames, NameNotBelowCount, TooManyPairings}

-- how many names there are, and the pairings of them since that was last set
pub record Pairings : Type 0 where
  pub count : ℕ
  pub links : List (ℕ × ℕ)

-- no names, and so no pairings
abbrev pub none : Pairings
none = record { count = 0; links = [] }

abbrev pub meaning_of : Pairings → Meaning
meaning_of p = record { size = p.count; related = joined p.links }

abbrev pub are_names : Pairings → ℕ → ℕ → Bool
are_names p i j = nat_lt i p.count && nat_lt j p.count

-- the first question that is answered "no", of setting the count, of a pairing and of `why`
abbrev pub count_questions : ℕ → Option Refusal
count_questions n = cond (nat_lt 64 n) (Some TooManyNames) None

abbrev pub name_questions : Pairings → ℕ → ℕ → Option Refusal
name_questions p i j = cond (are_names p i j) None (Some NameNotBelowCount)

abbrev pub pair_questions : Pairings → ℕ → ℕ → Option Refusal
pair_questions p i j = cond (are_names p i j) (cond (nat_lt (length p.links) 256) None (Some TooManyPairings)) (Some NameNotBelowCount)

-- the answer of a call, where its questions are all answered "yes" and where one is not
abbrev pub answer : {A : Type 0} → Option Refusal → A → Result A Refusal
answer None done = Ok done
answer (Some refusal) done = Err refusal

-- what a call leaves: a refused one changes nothing
abbrev pub left : {A : Type 0} → Option Refusal → A → A → A
left None after before = after
left (Some refusal) after before = before

abbrev pub with_count : Pairings → ℕ → Pairings
with_count p n = left (count_questions n) (record { count = n; links = [] }) p

abbrev pub with_pair : Pairings → ℕ → ℕ → Pairings
with_pair p i j = left (pair_questions p i j) (record { count = p.count; links = p.links ++ ((i, j) ∷ []) }) p

-- the fewest pairings in a chain from i to j, or none
abbrev pub why_of : Pairings → ℕ → ℕ → Option ℕ
why_of p i j = fewest p.links (λ y. nat_eq y j) i
