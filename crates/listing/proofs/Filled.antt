-- An array that is made by a function of the index.
use Rattle.std.proofs.Common.{◌≡◌, ℕ, zero, suc, ◌+◌, ◌<◌, ◌≤◌, List, get_or, map, refl, ap, ◌∙◌, subst, sym, inl, inr, arith}
use Rattle.std.proofs.lemmas.Bool.{cases_eq}
use Rattle.std.proofs.lemmas.List.FromFn.{fill_by_all}
use Rattle.std.specs.Array.{IsFromFnResult, IsFromFnResultFrom}
use Rattle.std.specs.Fn.{Called, Mut}
use Rattle.std.specs.List.{range_with_len}

-- each call leaves the callee as it was, and answers h of the index
module _ {F B : Type 0} (g : Mut F (ℕ × Unit {0}) B) (f : F) (h : ℕ → B) (calls : (i : ℕ) (y : B) (q : F) → Called g f (i, tt) y q → (q ≡ f) × (y ≡ h i)) where
  each : (ys : List B) (n i : ℕ) (p : F) → p ≡ f → IsFromFnResultFrom g p ys i n → (k : ℕ) → i ≤ k → k < i + n → (d : B) → get_or ys k d ≡ h k
  each ys zero i p same made k low high d = absurd (omega arith)
  each ys (suc n) i p same made k low high d =
      let call = calls i made.1 made.0 (subst (λ s. Called g s (i, tt) made.1 made.0) same made.3) in
      elim (cases_eq k i) [
        | inl here ↦ ap (λ m. get_or ys m d) here ∙ made.2.1 d ∙ call.1 ∙ ap h (sym here)
        | inr later ↦ each ys n (i + 1) made.0 call.0 made.4 k (omega arith) (omega arith) d
      ]

  pub filled : (ys : List B) (n : ℕ) (d : B) → IsFromFnResult g f ys n → ys ≡ map h (range_with_len 0 n)
  filled ys n d made = fill_by_all h ys n d made.long (λ k low. each ys n 0 f refl made.each k (omega arith) (omega arith) d)
