use Rattle.std.proofs.Common.{eqb, sym, ap, ◌∙◌}
use Rattle.links.proofs.Fewest.{nearest}
use Rattle.search.specs.Entries.{searched}
use Rattle.paired.specs.Entries.{all_present}
use Rattle.paired.specs.Held.{pairings_of}
use Rattle.paired.proofs.Answered.{why_found}
use Rattle.paired.proofs.store.Paired.why_by.Goals as goal

pub returns-then-not-are_names-clause-nearest : goal.returns-then-not-are_names-clause-nearest
returns-then-not-are_names-clause-nearest g c = nearest (pairings_of c.args.self.now).links (λ y. eqb y c.args.j) c.args.i

pub returns : goal.returns
returns g c =
    let p = pairings_of c.args.self.now in
    let found = c.search.ensures.is ∙ ap (λ links. searched p.count links (λ y. eqb y c.args.j) c.args.i) (all_present p.links) in
    record {
      is = why_found p c.args.i c.args.j c.search.result (sym c.if-not-are_names.ensures) found;
      nearest = nearest p.links (λ y. eqb y c.args.j) c.args.i;
    }
