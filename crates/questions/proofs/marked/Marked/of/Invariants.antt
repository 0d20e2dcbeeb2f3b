use Rattle.std.proofs.Common.{◌≡◌, ℕ, ◌<◌, false, [], ◌∷◌, length, slice_index_or, take}
use Rattle.std.specs.List.{list_any}
use Rattle.column.specs.Naming.{setting_of}
use Rattle.links.specs.Lists.{present}
use Rattle.meaning.specs.Answers.{bears}
use Rattle.meaning.specs.Columns.{mark_at}
use Rattle.questions.proofs.marked.Marked.of.Given as goal

abbrev pub invariant-loop-x : goal.invariant-loop-x
invariant-loop-x l =
    (length l.tables ≡ 256)
    × ((t : ℕ) → t < 256
    → slice_index_or l.tables t false ≡ list_any (λ x. bears (present (mark_at (setting_of l.fn.view.naming.now) l.fn.view.column x ∷ [])) t) (take l.x-index l.fn.list))
