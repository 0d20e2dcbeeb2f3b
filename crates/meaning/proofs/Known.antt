-- What is known of a table: the reading of a mark that a chain joins it to, or nothing.
use Rattle.std.proofs.Common.{◌≡◌, ℕ, true, ◌⊎◌, List, Some, None, Option, refl, ap, inl, inr}
use Rattle.links.specs.Chains.{joined}
use Rattle.links.specs.Lists.{Member}
use Rattle.arrangement.specs.Meaning.{Meaning, lowest}
use Rattle.meaning.specs.Answers.{first_that, known_by, reading_in}
use Rattle.meaning.proofs.Lists.{Found, first_found}

module _ (m : Meaning) (links marks : List (ℕ × ℕ)) where
  -- a chain joins the table to a mark, whose reading is known
  pub record Marked (t : ℕ) : Type 0 where
    pub mark : ℕ × ℕ
    pub among : Member mark marks
    pub chain : joined links t mark.0 ≡ true
    pub is : known_by m links marks t ≡ Some (lowest m mark.1)

  -- no chain joins it to a mark, and nothing is known
  pub record Unmarked (t : ℕ) : Type 0 where
    pub never : (p : ℕ × ℕ) → Member p marks → joined links t p.0 ≡ true → ⊥
    pub is : known_by m links marks t ≡ None

  pub known_cases : (t : ℕ) → Marked t ⊎ Unmarked t
  known_cases t = go (first_that (λ p. joined links t p.0) marks) refl (first_found (λ p. joined links t p.0) marks)
    where
      go : (o : Option (ℕ × ℕ)) → first_that (λ p. joined links t p.0) marks ≡ o → Found (λ p. joined links t p.0) marks o
          → Marked t ⊎ Unmarked t
      go None e f = inr (record { never = f; is = ap (reading_in m) e })
      go (Some p) e f = inl (record { mark = p; among = f.0; chain = f.1; is = ap (reading_in m) e })
