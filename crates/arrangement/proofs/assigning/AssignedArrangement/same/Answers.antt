use Rattle.std.proofs.Common.{nat_eq, sym, ap, ap₂, ◌∙◌}
use Rattle.std.specs.Prelude.{is_some}
use Rattle.arrangement.specs.Numbers.{both_equal}
use Rattle.arrangement.specs.NumbersLemmas.{equal_is_same, none_is_not_same}
use Rattle.arrangement.proofs.assigning.AssignedArrangement.same.Goals as goal

pub returns-then-is_some : goal.returns-then-is_some
returns-then-is_some c = c.are_equal.ensures ∙ ap₂ (both_equal nat_eq) c.get-number.ensures c.get.ensures ∙ equal_is_same _ c.args.i c.args.j

pub returns-else-is_some : goal.returns-else-is_some
returns-else-is_some c = c.if-is_some.false ∙ none_is_not_same _ c.args.i c.args.j (ap is_some (sym c.get-number.ensures) ∙ sym c.is_some.ensures ∙ c.if-is_some.false)
