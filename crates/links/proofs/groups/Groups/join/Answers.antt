use Rattle.std.proofs.Common.{◌≡◌, ℕ, ◌<◌, ◌≤◌, min, max, List, length, get_or, sym, ap, ◌∙◌, subst, arith}
use Rattle.std.proofs.lemmas.List.{length-map}
use Rattle.links.specs.Groups.{Roots, merged, relabelled}
use Rattle.links.proofs.Roots.{relabelled_down, roots_merged}
use Rattle.links.proofs.groups.Groups.join.Goals as goal

pub invariant_of-self : goal.invariant_of-self
invariant_of-self c =
    let s = c.args.self.now in
    let is = c.relabel.ensures in
    let lower : c.min.result ≤ c.max.result = omega (arith, c.min.ensures, c.max.ensures) in
    record {
      long = ap length is ∙ length-map s.root _ ∙ s.long;
      down = subst (λ (root : List ℕ). (t : ℕ) → t < 128 → get_or root t 0 ≤ t) (sym is) (relabelled_down s.root s.long c.max.result c.min.result lower s.down);
    }

pub returns-clause-joins : goal.returns-clause-joins
returns-clause-joins c = λ links a b roots.
    let s = c.args.self.now in
    let hi = c.max.ensures ∙ (λ i. max (c.root-a.ensures i) (c.root-b.ensures i)) in
    let lo = c.min.ensures ∙ (λ i. min (c.root-a.ensures i) (c.root-b.ensures i)) in
    let is : c.relabel.new.labels ≡ merged s.root c.args.x c.args.y = c.relabel.ensures ∙ (λ i. relabelled (hi i) (lo i) s.root) in
    subst (Roots _) (sym is) (roots_merged s.root s.long links c.args.x c.args.y a b roots)
