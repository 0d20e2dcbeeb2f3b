-- The first name that is the same is the lowest.
use Rattle.std.proofs.Common.{◌≡◌, ℕ, ◌<◌, ◌≤◌, true, false, Some, None, Option, MatchOption, ◌∙◌, refl, inl, inr, rules, arith}
use Rattle.std.specs.Option.{unwrap_or}
use Rattle.std.proofs.lemmas.Iterator.{first_from_Range}
use Rattle.arrangement.specs.Meaning.{Meaning, lowest, same}
use Rattle.arrangement.specs.Lowest.{lowest_is}
use Rattle.arrangement.proofs.classed.lowest_in.Goals as goal

found : (m : Meaning) (i : ℕ) (r : Option ℕ)
    → MatchOption r ((k : ℕ) → 0 ≤ k → k < i → same m k i ≡ false) (λ j. (0 ≤ j) × (j < i) × (same m j i ≡ true) × ((k : ℕ) → 0 ≤ k → k < j → same m k i ≡ false))
    → unwrap_or r i ≡ lowest m i
found m i None none = lowest_is m i i (omega arith) (λ k l. none k (omega arith) l) (inr refl)
found m i (Some j) one = lowest_is m j i (omega (arith, one.1)) (λ k l. one.3 k (omega arith) l) (inl one.2)

pub returns : goal.returns
returns g c =
    let m = g.A.Arrangement.meaning c.args.a.now in
    c.unwrap_or.ensures
    ∙ found m c.args.i c.find.result
    (first_from_Range _ _ _ _ (λ j. same m j c.args.i ≡ true) (λ j. same m j c.args.i ≡ false) c.find.ensures.ran
    (λ j q h. search rules)
    (λ j q h. (search rules, search rules)))
