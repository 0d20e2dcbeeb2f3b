use Rattle.std.proofs.Common.{◌≡◌, false, Ok, Err, rules, sym, ap, ◌∙◌}
use Rattle.listing.specs.Lines.{stopped}
use Rattle.listing.proofs.Steps.{stops_again}
use Rattle.listing.proofs.under_way.Listing.list_records.Goals as goal

pub returns-in_err-list_next-clause-stops : goal.returns-in_err-list_next-clause-stops
returns-in_err-list_next-clause-stops c =
    let fault = c.in_err-list_next.field-0.0 in
    let given : c.from_residual.result ≡ Err fault = search rules in
    stops_again _ _ _ _ (Err fault) (sym c.list_next.ensures.answer ∙ c.in_err-list_next.was) c.list_next.ensures.log c.list_next.ensures.offset ∙ ap stopped (sym given)

pub returns-clause-stops : goal.returns-clause-stops
returns-clause-stops c =
    let ended : c.list_next.result ≡ Ok false = search rules in
    stops_again _ _ _ _ (Ok (tt {0})) (sym c.list_next.ensures.answer ∙ ended) c.list_next.ensures.log c.list_next.ensures.offset
