use Rattle.std.proofs.Common.{◌≡◌, ◌+◌, ◌++◌, [], ◌∷◌, drop, Some, Ok, sym, ap, ◌∙◌, arith}
use Rattle.std.specs.Result.{result_err}
use Rattle.record.specs.Records.{advance, read_one}
use Rattle.listing.specs.declared.line.Line.TheVariants.{Read}
use Rattle.listing.specs.Names.{refusal_of, sorts_of}
use Rattle.listing.proofs.Steps.{one_more, told}
use Rattle.listing.proofs.under_way.Listing.list_next.Goals as goal

pub invariant_of-self-2-clause-whole : goal.invariant_of-self-2-clause-whole
invariant_of-self-2-clause-whole c =
    let at = c.args.self.now in
    let x = c.in-Some.record in
    let step = c.in_ok-record.ensures.step in
    let read : read_one (drop at.reader.offset at.reader.log.now) ≡ Ok (Some x) = sym (ap (λ p. p.0) step) ∙ ap (λ found. Ok found) c.in-Some.is in
    let offset : c.next.new.self.offset ≡ at.reader.offset + 7 = ap (λ p. p.1) step ∙ ap (λ answer. at.reader.offset + advance answer) read in
    let refused : c.err-refused.result ≡ refusal_of (sorts_of at.names) x = c.err-refused.ensures.value ∙ ap result_err c.hear.ensures.answer ∙ told (refusal_of (sorts_of at.names) x) in
    let listed = c.push_reserved.ensures.items ∙ (λ i. at.lines.items ++ (Read (c.number-number.ensures i) (c.offset-offset.ensures i) x (refused i) ∷ [])) in
    one_more _ _ _ _ _ _ _ _ x read c.next.ensures.log offset c.hear.ensures.holds listed (omega (arith, at.reader.within, at.short)) at.whole
