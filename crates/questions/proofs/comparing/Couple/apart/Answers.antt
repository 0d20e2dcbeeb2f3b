use Rattle.std.proofs.Common.{sym}
use Rattle.meaning.proofs.ColumnList.{has_elsewhere}
use Rattle.questions.specs.Asked.{setting_in}
use Rattle.questions.proofs.Unlike.{limit_is, no_limit_is}
use Rattle.questions.proofs.comparing.Couple.apart.Goals as goal

pub returns-then-are_unlike : goal.returns-then-are_unlike
returns-then-are_unlike c =
    let s = c.args.self.now in
    no_limit_is s.standing.now s.a s.b (sym (c.if-are_unlike.ensures (has_elsewhere (setting_in s.standing.now))))

pub returns : goal.returns
returns c =
    let s = c.args.self.now in
    limit_is s.standing.now s.a s.b (sym (c.if-are_unlike.ensures (has_elsewhere (setting_in s.standing.now))))
    c.unlike_classes-set.result c.unlike_classes-set.ensures
