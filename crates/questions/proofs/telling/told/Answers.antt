use Rattle.std.proofs.Common.{◌<◌, ◌∙◌, arith}
use Rattle.questions.specs.Asked.{setting_in}
use Rattle.questions.proofs.Distances.{told_is}
use Rattle.questions.proofs.Names.{lowest_name}
use Rattle.questions.proofs.telling.told.Goals as goal

pub returns : goal.returns
returns c =
    let s = c.args.standing.now in
    let low : c.args.a.0 < s.tables = omega (arith, c.if-a-tables.false, c.tables.ensures) in
    let name = lowest_name (setting_in s).slots c.args.i.0 c.in_ok-c.c c.in_ok-c.ensures in
    c.told.ensures ∙ told_is s c.args.a.0 c.args.i.0 c.in_ok-c.c low name.0 name.1
