use Rattle.std.proofs.Common.{◌≡◌, ◌^◌, ◌<◌, filter}
use Rattle.meaning.specs.Answers.{bits_of}
use Rattle.meaning.specs.Columns.{columns_below}
use Rattle.questions.specs.Asked.{setting_in, unlike_at}
use Rattle.questions.proofs.comparing.Couple.unlike_classes.Given as goal

abbrev pub invariant-loop-c : goal.invariant-loop-c
invariant-loop-c l =
    let s = l.self.standing.now in
    (l.set < 2 ^ l.c)
    × (l.set ≡ bits_of (filter (unlike_at s l.self.a l.self.b) (columns_below (setting_in s).slots l.c)))
