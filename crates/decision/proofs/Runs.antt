-- Tests over lists, as loops make them.
use Rattle.std.proofs.Common.{◌≡◌, ℕ, suc, ◌+◌, ◌<◌, Bool, true, false, not, ◌&&◌, ◌||◌, List, [], ◌∷◌, ◌++◌, length, get_or, take, sym, refl, ap, ◌∙◌, arith}
use Rattle.std.proofs.Math.Bool.{and_assoc, or_assoc}
use Rattle.std.proofs.lemmas.List.{take_more}
use Rattle.std.specs.List.{list_all, list_any}
use Rattle.std.proofs.lemmas.Bool.{and_from}

module _ {X : Type 0} (p : X → Bool) where
  pub any_not : (xs : List X) → list_any (λ x. not (p x)) xs ≡ not (list_all p xs)
  any_not [] = refl
  any_not (x ∷ xs) = ap (λ b. not (p x) || b) (any_not xs) ∙ either (p x) (list_all p xs)
    where
      either : (a b : Bool) → (not a || not b) ≡ not (a && b)
      either true b = refl
      either false b = refl

  pub any_append : (xs ys : List X) → list_any p (xs ++ ys) ≡ (list_any p xs || list_any p ys)
  any_append [] ys = refl
  any_append (x ∷ xs) ys = ap (λ b. p x || b) (any_append xs ys) ∙ sym (or_assoc (p x) (list_any p xs) (list_any p ys))

  pub any_more : (b : Bool) (xs : List X) (i : ℕ) (d : X) → i < length xs
      → ((b || list_any p (take i xs)) || list_any p (get_or xs i d ∷ [])) ≡ (b || list_any p (take (i + 1) xs))
  any_more b xs i d l =
      or_assoc b (list_any p (take i xs)) (list_any p (get_or xs i d ∷ []))
      ∙ ap (λ c. b || c) (sym (any_append (take i xs) (get_or xs i d ∷ [])) ∙ ap (list_any p) (sym (take_more xs i d l)))

  -- one, then two lists
  pub any_three : (x : X) (xs ys : List X) → ((list_any p (x ∷ []) || list_any p xs) || list_any p ys) ≡ list_any p (x ∷ (xs ++ ys))
  any_three x xs ys =
      or_assoc (list_any p (x ∷ [])) (list_any p xs) (list_any p ys)
      ∙ ap (λ b. list_any p (x ∷ []) || b) (sym (any_append xs ys)) ∙ sym (any_append (x ∷ []) (xs ++ ys))

  pub all_append : (xs ys : List X) → list_all p (xs ++ ys) ≡ (list_all p xs && list_all p ys)
  all_append [] ys = refl
  all_append (x ∷ xs) ys = ap (λ b. p x && b) (all_append xs ys) ∙ sym (and_assoc (p x) (list_all p xs) (list_all p ys))

  -- what passes at every place passes
  pub all_places : (xs : List X) → ((i : ℕ) → i < length xs → (d : X) → p (get_or xs i d) ≡ true) → list_all p xs ≡ true
  all_places [] h = refl
  all_places (x ∷ xs) h =
      and_from (p x) (list_all p xs) (h 0 (omega arith) x) (all_places xs (λ i l d. h (suc i) (omega arith) d))
