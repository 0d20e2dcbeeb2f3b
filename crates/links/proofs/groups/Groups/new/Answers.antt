use Rattle.std.proofs.Common.{◌≡◌, ℕ, ◌<◌, get_or, ◌∙◌, arith, rules}
use Rattle.links.proofs.Roots.{alone}
use Rattle.links.proofs.groups.Groups.new.Goals as goal

-- each name stands for itself
pub invariant_of-result : goal.invariant_of-result
invariant_of-result c =
    let itself : (t : ℕ) → t < 128 → get_or c.from_fn.result t 0 ≡ t = λ t l. let call = c.from_fn.ensures.items.at t 0 l in search rules in
    record { long = c.from_fn.ensures.items.long; down = λ t l. omega (arith, itself t l) }

pub returns : goal.returns
returns c =
    let itself : (t : ℕ) → t < 128 → get_or c.from_fn.result t 0 ≡ t = λ t l. let call = c.from_fn.ensures.items.at t 0 l in search rules in
    record { low = λ t l. itself t l ∙ alone t }
