-- What a bounded list holds, and what its calls answer and leave.
use Rattle.std.specs.Prelude.{ℕ, cond, List, [], ◌∷◌, ◌++◌, length, take, Ok, Err, Result, nat_lt}
use Rattle.bounded.specs.declared.list.Bounded.{Bounded}
use Rattle.bounded.specs.declared.list.Full.{Full}

module _ {T : Type 0} where
  -- the items, in order
  abbrev pub items_of : {n : ℕ} → Bounded T n → List T
  items_of x = take x.len x.slots

  -- an item more at the end, where there is room
  abbrev pub pushed : ℕ → List T → T → List T
  pushed n xs x = cond (nat_lt (length xs) n) (xs ++ (x ∷ [])) xs

  abbrev pub push_answer : ℕ → List T → Result (Unit {0}) Full
  push_answer n xs = cond (nat_lt (length xs) n) (Ok tt) (Err (record {}))

  -- the items of another list in place of those before, where there is room for all
  abbrev pub filled : ℕ → List T → List T → List T
  filled n xs ys = cond (nat_lt n (length ys)) xs ys

  abbrev pub fill_answer : ℕ → List T → Result (Unit {0}) Full
  fill_answer n ys = cond (nat_lt n (length ys)) (Err (record {})) (Ok tt)
