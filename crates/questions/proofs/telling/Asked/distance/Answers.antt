use Rattle.std.proofs.Common.{◌≡◌, true, List, sym, ap, ap₂, ◌∙◌}
use Rattle.bounded.specs.Items.{items_of}
use Rattle.links.specs.Lists.{present}
use Rattle.column.specs.Naming.{setting_of}
use Rattle.column.specs.declared.view.View.{View}
use Rattle.meaning.specs.declared.column.Column.{Column}
use Rattle.meaning.specs.Answers.{bears}
use Rattle.meaning.specs.Columns.{marks_at}
use Rattle.search.specs.Entries.{searched}
use Rattle.statement.specs.declared.Statement.{Statement}
use Rattle.questions.proofs.Distances.{distance_is, distance_itself}
use Rattle.questions.proofs.telling.Asked.distance.Goals as goal

pub returns : goal.returns
returns c =
    let s = c.args.self.now in
    let links = c.gather-links.result in
    let v = c.view_in-view in
    let xs = c.statements in
    c.search.ensures.is
    ∙ ap₂ (λ (u : View) (ys : List Statement). searched links.tables (present (items_of links.links)) (bears (marks_at (setting_of u.naming.now) ys u.column)) s.table) c.of-marked.ensures.view c.of-marked.ensures.list
    ∙ ap (λ (k : Column). searched links.tables (present (items_of links.links)) (bears (marks_at (setting_of v.result.naming.now) xs.result.now k)) s.table) v.ensures.column
    ∙ distance_is s.standing.now s.column s.table links.tables (items_of links.links) v.result.naming.now xs.result.now
    c.gather-links.ensures.tables c.gather-links.ensures.links v.ensures.naming xs.ensures s.below

pub returns-then-met : goal.returns-then-met
returns-then-met c =
    let s = c.args.self.now in
    let v = c.view_in-view in
    let xs = c.statements in
    let met : bears (marks_at (setting_of v.result.naming.now) xs.result.now s.column) s.table ≡ true =
    ap (λ (k : Column). bears (marks_at (setting_of v.result.naming.now) xs.result.now k) s.table) (sym v.ensures.column)
    ∙ ap₂ (λ (u : View) (ys : List Statement). bears (marks_at (setting_of u.naming.now) ys u.column) s.table) (sym c.of-marked.ensures.view) (sym c.of-marked.ensures.list)
    ∙ sym c.met.ensures
    ∙ c.if-met.true in
    distance_itself s.standing.now s.column s.table v.result.naming.now xs.result.now v.ensures.naming xs.ensures met
