use Rattle.std.proofs.Common.{◌≡◌, drop}
use Rattle.search.specs.Walks.{visited}
use Rattle.search.specs.Waves.{turns, walk_of}
use Rattle.search.proofs.wave.Wave.visit.Given as goal

-- to visit the rest of the entries from here is to visit all of them from the start
abbrev pub invariant-loop-k : goal.invariant-loop-k
invariant-loop-k g l =
    let visit = visited g.E.Entry.made l.name l.distance in
    let es = g.L.Links.entries l.links in
    record {
      rest : visit (drop l.k es) (walk_of l.self) ≡ visit es (walk_of l.initial.self);
      keeps : turns l.self ≡ turns l.initial.self;
    }
