-- What is stored agrees with what was asked.
use Rattle.std.proofs.Common.{◌≡◌, ℕ, ◌<◌, length, get_or, arith}
use Rattle.bounded.specs.Items.{items_of}
use Rattle.arrangement.specs.Meaning.{Lawful, lowest}
use Rattle.arrangement.specs.Kept.{agrees, down_from, root_from}
use Rattle.arrangement.specs.Laws.{lawful_each}
use Rattle.arrangement.proofs.classed.classes_of.Given.{Over}
use Rattle.arrangement.proofs.classed.classes_of.Goals as goal

abbrev law : (g : Over) (a : g.row.A.Denot) → Lawful (g.A.Arrangement.meaning a)
law g =
    let keeps = g.met.A.Arrangement in
    lawful_each g.A.Arrangement.meaning keeps.bounded keeps.reflexive keeps.symmetric keeps.transitive

pub invariant_of-result : goal.invariant_of-result
invariant_of-result g c =
    let a = c.args.a.now in
    let listed = c.loop-i.invariant in
    let e : length (items_of c.loop-i.lowest) ≡ (g.A.Arrangement.meaning a).size = omega (arith, listed.0, c.count-i-end.ensures) in
    let stored : (k : ℕ) → k < length (items_of c.loop-i.lowest) → get_or (items_of c.loop-i.lowest) k 0 ≡ lowest (g.A.Arrangement.meaning a) k = λ k l. listed.1 k (omega (arith, listed.0)) in
    record {
      down = down_from _ (law g a) _ e stored;
      root = root_from _ (law g a) _ e stored;
    }

pub returns-clause-agrees : goal.returns-clause-agrees
returns-clause-agrees g c =
    let a = c.args.a.now in
    let listed = c.loop-i.invariant in
    let e : length (items_of c.loop-i.lowest) ≡ (g.A.Arrangement.meaning a).size = omega (arith, listed.0, c.count-i-end.ensures) in
    agrees (g.A.Arrangement.meaning a) (law g a) _ e (λ k l. listed.1 k (omega (arith, listed.0)))
