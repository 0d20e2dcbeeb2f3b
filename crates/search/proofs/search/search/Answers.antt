use Rattle.std.proofs.Common.{◌+◌, ◌≤◌, length, Some, None, sym, ap, ◌∙◌, arith, rules}
use Rattle.links.specs.Lists.{present}
use Rattle.search.specs.Queues.{waiting}
use Rattle.search.specs.Waves.{turns, walk_of}
use Rattle.search.proofs.Queues.{popped_some}
use Rattle.search.proofs.Turns.{going_start, nearest_searched, turn_found, turn_next, turn_none, turn_short}
use Rattle.search.proofs.Visits.{inside_wider}
use Rattle.search.proofs.search.search.Goals as goal

pub loop-entry-init : goal.loop-entry-init
loop-entry-init g c =
    let entry = g.E.Entry in
    let met = g.met.E.Entry in
    let links = c.args.links.now in
    going_start entry.made entry.name_of entry.distance_of met.named met.measured (present (g.L.Links.entries links)) (g.G.Goal.test c.args.goal.now) c.args.from
    (turns c.note.new.self) (walk_of c.new-wave.result) (walk_of c.note.new.self) (omega (arith, g.met.L.Links.few links))
    c.new-wave.ensures.none c.note.ensures.does (c.note.ensures.keeps ∙ c.new-wave.ensures.all)

pub returns-then-met : goal.returns-then-met
returns-then-met g c =
    let entry = g.E.Entry in
    let met = g.met.E.Entry in
    let links = c.args.links.now in
    let es = g.L.Links.entries links in
    let popped = c.in-Some.ensures in
    let d = c.in-Some-distance.distance in
    let near = turn_found entry.made entry.name_of entry.distance_of met.named met.measured es (popped_some _ _ _ popped.first popped.rest) c.loop-entry.invariant
    c.name-name.result d c.name-name.ensures (sym c.distance.ensures ∙ c.in-Some-distance.is) (sym c.met.ensures ∙ c.if-met.true) in
    record {
      is = nearest_searched (g.L.Links.count links) (present es) (g.G.Goal.test c.args.goal.now) c.args.from (Some d) (omega arith) near;
      nearest = λ _. near;
    }

pub overflow_add-distance : goal.overflow_add-distance
overflow_add-distance g c =
    let entry = g.E.Entry in
    let met = g.met.E.Entry in
    let popped = c.in-Some.ensures in
    let d = c.in-Some-distance.distance in
    let short : d + turns c.loop-entry.wave ≤ 128 = turn_short entry.made entry.name_of entry.distance_of met.named met.measured (g.L.Links.entries c.args.links.now)
    (popped_some _ _ _ popped.first popped.rest) c.loop-entry.invariant
    c.name-name.result d c.name-name.ensures (sym c.distance.ensures ∙ c.in-Some-distance.is) in
    search rules

pub loop-entry-preserved : goal.loop-entry-preserved
loop-entry-preserved g c =
    let entry = g.E.Entry in
    let met = g.met.E.Entry in
    let links = c.args.links.now in
    let es = g.L.Links.entries links in
    let popped = c.in-Some.ensures in
    let taken = popped_some _ _ _ popped.first popped.rest in
    turn_next entry.made entry.name_of entry.distance_of met.named met.measured es taken c.loop-entry.invariant
    c.name-name.result c.in-Some-distance.distance c.name-name.ensures (sym c.distance.ensures ∙ c.in-Some-distance.is)
    (turns c.visit.new.self) (walk_of c.visit.new.self)
    (omega (arith, c.visit.ensures.keeps, popped.left, ap length taken))
    (inside_wider (g.L.Links.count links) (g.met.L.Links.few links) es (g.met.L.Links.inside links))
    (sym c.met.ensures ∙ c.if-met.false) c.visit.ensures.does

pub returns : goal.returns
returns g c =
    let entry = g.E.Entry in
    let links = c.args.links.now in
    let es = g.L.Links.entries links in
    let goal = g.G.Goal.test c.args.goal.now in
    let w = c.loop-entry.wave in
    let near = turn_none entry.name_of entry.distance_of (present es) goal c.args.from (turns w) w.known (waiting w.queue) c.loop-entry.invariant c.in_default.ensures.first in
    record {
      is = nearest_searched (g.L.Links.count links) (present es) goal c.args.from None (omega arith) near;
      nearest = λ _. near;
    }
