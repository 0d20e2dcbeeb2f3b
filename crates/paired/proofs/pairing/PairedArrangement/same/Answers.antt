use Rattle.std.proofs.Common.{◌<◌, ◌&&◌, ltb, sym, ap, ◌∙◌, arith}
use Rattle.std.proofs.lemmas.Bool.{and_left, and_parts, ltb-true}
use Rattle.links.specs.Chains.{joined}
use Rattle.paired.specs.Held.{pairings_of}
use Rattle.paired.specs.Same.{roots_joined, same_after, same_is}
use Rattle.paired.proofs.pairing.PairedArrangement.same.Goals as goal

pub returns-then-are_names : goal.returns-then-are_names
returns-then-are_names c =
    let s = c.args.self.now in
    let i = c.args.i in
    let j = c.args.j in
    let names = and_parts (ltb i s.names) (ltb j s.names) (sym c.if-are_names.ensures) in
    let low : i < 128 = omega (arith, ltb-true i s.names names.0, s.few) in
    let low' : j < 128 = omega (arith, ltb-true j s.names names.1, s.few) in
    let links = (pairings_of s).links in
    let is = c.are_joined.ensures ∙ roots_joined links s.groups.root s.groups.long s.grouped i j low low' ∙ ap (λ t. t && joined links i j) c.if-are_names.ensures ∙ sym (same_is (pairings_of s) i j) in
    record { is = is; after = same_after (pairings_of s) i j c.are_joined.result is }

pub returns-else-are_names-clause-is : goal.returns-else-are_names-clause-is
returns-else-are_names-clause-is c =
    let s = c.args.self.now in
    c.if-are_names.false ∙ sym (same_is (pairings_of s) c.args.i c.args.j ∙ and_left _ _ (sym c.if-are_names.ensures))
