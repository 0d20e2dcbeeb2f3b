use Rattle.std.proofs.Common.{sym, ◌∙◌}
use Rattle.arrangement.specs.Kept.{lawful}
use Rattle.column.specs.Naming.{setting_of}
use Rattle.decision.proofs.Looked.{led_below}
use Rattle.decision.proofs.looking.note_class.Goals as goal

pub bounds-named-c : goal.bounds-named-c
bounds-named-c c =
    let n = c.args.naming.now in
    led_below (setting_of n).slots (lawful n.slots) c.in-Some.i c.in-Some-lowest.c (sym c.lowest.ensures ∙ c.in-Some-lowest.is)
