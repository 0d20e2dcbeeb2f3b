-- Names with a number each: what a list of numbers means, and how it is taken.
use Rattle.std.specs.Prelude.{ℕ, Bool, false, cond, List, length, Some, None, Ok, Err, Option, Result, ◌==◌, nat_lt, slice_index}
use Rattle.bounded.specs.Items.{items_of}
use Rattle.arrangement.specs.declared.assigned.Assigned.{Assigned}
use Rattle.arrangement.specs.declared.refusal.Refusal.{Refusal}
use Rattle.arrangement.specs.declared.refusal.Refusal.TheVariants.{TooManyNames}
use Rattle.arrangement.specs.Meaning.{Meaning}

-- the numbers of the names, in their order
abbrev pub numbers_of : Assigned → List ℕ
numbers_of x = items_of x.numbers

-- are both there, and equal?
abbrev pub both_equal : {X : Type 0} → (X → X → Bool) → Option X → Option X → Bool
both_equal equal None y = false
both_equal equal (Some x) None = false
both_equal equal (Some x) (Some y) = equal x y

-- names are the same where their numbers are equal
abbrev pub assigned_meaning : List ℕ → Meaning
assigned_meaning numbers = record { size = length numbers; related = λ i j. (slice_index numbers i == slice_index numbers j) }

-- what is answered to a list of numbers
abbrev pub fill_answer : List ℕ → Result (Unit {0}) Refusal
fill_answer list = cond (nat_lt 64 (length list)) (Err TooManyNames) (Ok tt)

-- the numbers after a list: the list itself, or those before where the list is too long
abbrev pub filled : List ℕ → List ℕ → List ℕ
filled before list = cond (nat_lt 64 (length list)) before list
