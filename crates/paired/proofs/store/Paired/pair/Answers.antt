-- A pairing that finds room is the last of those held.
use Rattle.std.proofs.Common.{ℕ, ◌<◌, length, ltb, List, get_or, sym, ap, subst, ◌∙◌, arith}
use Rattle.std.specs.Result.{is_ok}
use Rattle.std.proofs.lemmas.Bool.{and_parts, ltb-true}
use Rattle.links.specs.Chains.{lowest_joined}
use Rattle.bounded.specs.Items.{items_of}
use Rattle.bounded.specs.Laws.{pushed_last}
use Rattle.paired.specs.Asked.{one_more}
use Rattle.paired.proofs.store.Paired.pair.Goals as goal

pub invariant_of-self-2 : goal.invariant_of-self-2
invariant_of-self-2 c =
    let s = c.args.self.now in
    let held = items_of s.pairs in
    let v : ℕ × ℕ = (c.args.i, c.args.j) in
    let names = and_parts (ltb c.args.i s.names) (ltb c.args.j s.names) (sym c.if-not-are_names.ensures) in
    let low = ltb-true c.args.i s.names names.0 in
    let low' = ltb-true c.args.j s.names names.1 in
    let more = c.push.ensures.holds ∙ pushed_last _ held v c.push.result c.push.ensures.answer (sym c.map_err.ensures.variant ∙ ap is_ok c.in_ok-map_err.was) in
    let roots = c.join.ensures.joins held (omega (arith, low, s.few)) (omega (arith, low', s.few)) (record { low = s.grouped }) in
    record {
      few = s.few;
      first = subst (λ (ps : List (ℕ × ℕ)). (k : ℕ) → k < length ps → (get_or ps k (0, 0)).0 < s.names) (sym more) (one_more (λ p. p.0 < s.names) held v s.first low);
      second = subst (λ (ps : List (ℕ × ℕ)). (k : ℕ) → k < length ps → (get_or ps k (0, 0)).1 < s.names) (sym more) (one_more (λ p. p.1 < s.names) held v s.second low');
      grouped = λ t l. roots.low t l ∙ ap (λ links. lowest_joined links t) (sym more);
    }
