use Rattle.std.proofs.Common.{◌≡◌, ◌∙◌, arith}
use Rattle.std.specs.List.{list_all}
use Rattle.std.proofs.lemmas.Grind.{common_steps}
use Rattle.decision.specs.Looks.{is_borne_out}
use Rattle.decision.specs.Trials.{tried}
use Rattle.decision.proofs.Outcome.{borne_test}
use Rattle.meaning.specs.Columns.{difference}
use Rattle.decision.proofs.sights.Sights.fits.Goals as goal

pub returns-then-bears_all_out : goal.returns-then-bears_all_out
returns-then-bears_all_out c =
    let s = c.args.self.now in
    let t = c.args.trial.now in
    let e : c.bears_all_out-then-bears_all_out.result ≡ list_all (λ x. is_borne_out s (difference x)) (tried t) = grind (arith, common_steps) in
    e ∙ borne_test t s c.requires

pub returns-else-bears_all_out : goal.returns-else-bears_all_out
returns-else-bears_all_out c =
    let s = c.args.self.now in
    let t = c.args.trial.now in
    let e : c.if-bears_out.value ≡ list_all (λ x. is_borne_out s (difference x)) (tried t) = grind (arith, common_steps) in
    e ∙ borne_test t s c.requires
