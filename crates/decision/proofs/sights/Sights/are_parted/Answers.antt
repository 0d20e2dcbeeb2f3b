use Rattle.std.proofs.Common.{Bool, not, ◌&&◌, ◌∙◌, ap, rules, tests}
use Rattle.std.specs.List.{list_all}
use Rattle.std.proofs.lemmas.Iterator.{YieldsList-from_slice}
use Rattle.std.proofs.lemmas.Iterator.Search.{any_from_yields_List}
use Rattle.column.specs.declared.sight.Sight.{Sight}
use Rattle.column.specs.Sights.{seem_alike}
use Rattle.decision.proofs.Runs.{any_not}
use Rattle.decision.proofs.sights.Sights.are_parted.Goals as goal

pub returns-else-not-are_alike : goal.returns-else-not-are_alike
returns-else-not-are_alike c =
    let s = c.args.self.now in
    let seem : Sight → Bool = λ v. seem_alike v c.args.a c.args.b in
    any_from_yields_List (λ v. not (seem v)) _ _ _ c.any.ensures.ran (YieldsList-from_slice s.each.now cc) (λ x b q k. search (rules, tests))
    ∙ any_not seem s.each.now ∙ ap (λ b. not (b && list_all seem s.each.now)) c.if-not-are_alike.ensures
