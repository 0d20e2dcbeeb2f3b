use Rattle.std.proofs.Common.{◌≡◌, ℕ, ◌<◌, false, ◌||◌, get_or, take}
use Rattle.column.specs.Naming.{setting_of}
use Rattle.column.specs.Sights.{Readable}
use Rattle.decision.specs.Looks.{is_named_in}
use Rattle.decision.proofs.looking.note_classes.Given as goal

abbrev pub invariant-loop-x : goal.invariant-loop-x
invariant-loop-x l =
    (c : ℕ) → c < 64 → Readable (setting_of l.naming) l.xs
    → get_or l.named c false ≡ (get_or l.initial.named c false || is_named_in (setting_of l.naming).slots (take l.x-index l.xs) c)
