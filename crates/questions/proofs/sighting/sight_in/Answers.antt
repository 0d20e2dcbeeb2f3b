use Rattle.std.proofs.Common.{subst, ◌∙◌}
use Rattle.std.proofs.lemmas.List.{append-nil}
use Rattle.column.specs.Sights.{SeenAt}
use Rattle.meaning.specs.declared.column.Column.{Column}
use Rattle.questions.specs.Asked.{list_in, setting_in}
use Rattle.questions.specs.Stands.{seen_in}
use Rattle.questions.proofs.sighting.sight_in.Goals as goal

pub returns : goal.returns
returns c =
    let s = c.args.standing.now in
    let v = c.view_in in
    subst (λ (k : Column). SeenAt (setting_in s) (list_in s) k c.sight.result) v.ensures.column
    (seen_in s v.result.column c.sight.result v.result.naming.now _
    v.ensures.naming (append-nil c.statements.result.now ∙ c.statements.ensures) c.sight.ensures)
