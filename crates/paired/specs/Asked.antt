-- What a pairing more leaves.
use Rattle.std.specs.Prelude.{◌≡◌, ℕ, ◌<◌, List, [], ◌∷◌, ◌++◌, length, get_or, slice_index_or}
use Rattle.std.proofs.Common.{inl, inr, sym, ap, subst, ◌∙◌, arith, length-append}
use Rattle.std.proofs.lemmas.List.{get_or_append_left}
use Rattle.std.proofs.Math.Seq.{get_or-append_seam}
use Rattle.std.proofs.lemmas.Bool.{cases_lt}

-- what holds of each pairing, and of one more
pub one_more : (P : ℕ × ℕ → Type 0) (xs : List (ℕ × ℕ)) (v : ℕ × ℕ) → ((k : ℕ) → k < length xs → P (slice_index_or xs k (0, 0))) → P v → (k : ℕ) → k < length (xs ++ (v ∷ [])) → P (slice_index_or (xs ++ (v ∷ [])) k (0, 0))
one_more P xs v all this k below =
    elim (cases_lt k (length xs)) [
      | inl low ↦ subst P (sym (get_or_append_left xs (v ∷ []) (0, 0) k low)) (all k low)
      | inr high ↦
          let e : k ≡ length xs = omega (arith, length-append xs (v ∷ [])) in
          subst P (sym (ap (λ j. get_or (xs ++ (v ∷ [])) j (0, 0)) e ∙ get_or-append_seam xs v [] (0, 0))) this
    ]
