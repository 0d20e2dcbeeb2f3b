-- What a wave holds.
use Rattle.std.specs.Prelude.{ℕ, ◌+◌, length}
use Rattle.search.specs.declared.wave.Wave.{Wave}
use Rattle.search.specs.Queues.{room, waiting}
use Rattle.search.specs.Walks.{Walk, walk}

-- the table and what waits
abbrev pub walk_of : {E : Type 0} → Wave E → Walk E
walk_of w = walk w.known (waiting w.queue)

-- how many turns are left at most: each takes one that waits, and each that is noted takes a slot
abbrev pub turns : {E : Type 0} → Wave E → ℕ
turns w = room w.queue + length (waiting w.queue)
