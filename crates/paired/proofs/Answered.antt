-- What `why` answers where both are names.
use Rattle.std.proofs.Common.{◌≡◌, ℕ, true, eqb, ltb, Ok, Option, sym, ap, ◌∙◌}
use Rattle.std.proofs.lemmas.Bool.{and_parts, cond-true}
use Rattle.search.specs.Entries.{searched}
use Rattle.paired.specs.Pairings.{Pairings, answer, are_names, name_questions, why_of}

module _ (p : Pairings) (i j : ℕ) where
  pub why_found : (r : Option ℕ) → are_names p i j ≡ true → r ≡ searched p.count p.links (λ y. eqb y j) i → Ok r ≡ answer (name_questions p i j) (why_of p i j)
  why_found r on is =
      let below = (and_parts (ltb i p.count) (ltb j p.count) on).0 in
      ap (λ o. Ok o) (is ∙ cond-true _ _ _ below) ∙ sym (ap (λ o. answer o (why_of p i j)) (cond-true _ _ _ on))
