use Rattle.links.specs.Lists.{present}
use Rattle.search.specs.Waves.{turns, walk_of}
use Rattle.search.proofs.Turns.{Going}
use Rattle.search.proofs.search.search.Given as goal

abbrev pub invariant-loop-entry : goal.invariant-loop-entry
invariant-loop-entry g l =
    Going g.E.Entry.name_of g.E.Entry.distance_of (present (g.L.Links.entries l.links)) (g.G.Goal.test l.goal) l.from (turns l.wave) (walk_of l.wave)

abbrev pub decreases-loop-entry : goal.decreases-loop-entry
decreases-loop-entry g l = turns l.wave
