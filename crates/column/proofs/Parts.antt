-- What statements give, part by part.
use Rattle.std.proofs.Common.{◌≡◌, ℕ, zero, suc, ◌+◌, ◌<◌, List, [], ◌∷◌, ◌++◌, map, length, get_or, take, Some, None, Option, sym, refl, ap, ◌∙◌, inl, inr, append_assoc, arith}
use Rattle.std.specs.List.{flat_map}
use Rattle.std.proofs.lemmas.List.{append-nil, flat_map_more, take_more}
use Rattle.links.specs.Lists.{Member, present}
use Rattle.links.proofs.Lists.{member_left, member_right}
use Rattle.meaning.specs.Theorems.{Within}

pub member_at : {X : Type 0} (xs : List X) (i : ℕ) (d : X) → i < length xs → Member (get_or xs i d) xs
member_at [] i d l = absurd (omega arith)
member_at (x ∷ xs) zero d l = inl refl
member_at (x ∷ xs) (suc i) d l = inr (member_at xs i d (omega arith))

module _ {X Y : Type 0} (f : X → Option Y) where
  pub given-append : (xs ys : List X) → present (map f (xs ++ ys)) ≡ present (map f xs) ++ present (map f ys)
  given-append [] ys = refl
  given-append (x ∷ xs) ys = go (given-append xs ys) (f x)
    where
      go : present (map f (xs ++ ys)) ≡ present (map f xs) ++ present (map f ys)
          → (o : Option Y) → present (o ∷ map f (xs ++ ys)) ≡ present (o ∷ map f xs) ++ present (map f ys)
      go ih None = ih
      go ih (Some y) = ap (λ l. y ∷ l) ih

  -- the steps of a loop that adds what each gives to a list
  pub given_none : (M : List Y) → M ++ present (map f []) ≡ M
  given_none M = append-nil M

  pub given_more : (M : List Y) (xs : List X) (i : ℕ) (d : X) → i < length xs
      → (M ++ present (map f (take i xs))) ++ present (f (get_or xs i d) ∷ []) ≡ M ++ present (map f (take (i + 1) xs))
  given_more M xs i d l =
      append_assoc M (present (map f (take i xs))) (present (f (get_or xs i d) ∷ []))
      ∙ ap (λ ys. M ++ ys) (sym (given-append (take i xs) (get_or xs i d ∷ [])) ∙ ap (λ ys. present (map f ys)) (sym (take_more xs i d l)))

  -- the step of a loop that goes through a list part by part
  pub given_part : {Z : Type 0} (g : Z → List X) (M : List Y) (parts : List Z) (i : ℕ) (d : Z) → i < length parts
      → (M ++ present (map f (flat_map g (take i parts)))) ++ present (map f (g (get_or parts i d)))
      ≡ M ++ present (map f (flat_map g (take (i + 1) parts)))
  given_part g M parts i d l =
      append_assoc M (present (map f (flat_map g (take i parts)))) (present (map f (g (get_or parts i d))))
      ∙ ap (λ ys. M ++ ys)
      (sym (given-append (flat_map g (take i parts)) (g (get_or parts i d)))
      ∙ ap (λ ys. present (map f ys)) (flat_map_more g [] (take i parts) (get_or parts i d) ∙ ap (flat_map g) (sym (take_more parts i d l))))

-- what holds of all that the parts make holds of each part
pub part_within : {X Z : Type 0} (g : Z → List X) (parts : List Z) (i : ℕ) (d : Z) → i < length parts → Within (g (get_or parts i d)) (flat_map g parts)
part_within g [] i d l x m = absurd (omega arith)
part_within g (p ∷ ps) zero d l x m = member_left x (g p) (flat_map g ps) m
part_within g (p ∷ ps) (suc i) d l x m = member_right x (g p) (flat_map g ps) (part_within g ps i d (omega arith) x m)
