-- What a queue holds.
use Rattle.std.specs.Prelude.{ℕ, ◌-◌, List, length, take, drop}
use Rattle.search.specs.declared.queue.Queue.{Queue}

-- what waits: `count` slots from `head` on, the first first
abbrev pub waiting : {E : Type 0} → Queue E → List E
waiting q = take q.count (drop q.head q.slots.now)

-- how many more can be pushed
abbrev pub room : {E : Type 0} → Queue E → ℕ
room q = length q.slots.now - q.head - q.count
