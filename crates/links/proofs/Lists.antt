-- Tests over lists, and members.
use Rattle.std.proofs.Common.{◌≡◌, Bool, true, false, ◌⊎◌, List, [], ◌∷◌, ◌++◌, sym, refl, ap, ◌∙◌, inl, inr}
use Rattle.std.specs.List.{list_all, list_any}
use Rattle.std.proofs.lemmas.Bool.{false≢true, true≢false, or_left, or_right, or_cases, and_from, and_parts, and_cases}
use Rattle.links.specs.Lists.{Member}

module _ {X : Type 0} (p : X → Bool) where
  pub any_from : (xs : List X) (x : X) → Member x xs → p x ≡ true → list_any p xs ≡ true
  any_from [] x m h = elim m [ ]
  any_from (y ∷ ys) x (inl e) h = or_left (p y) (list_any p ys) (ap p e ∙ h)
  any_from (y ∷ ys) x (inr m) h = or_right (p y) (list_any p ys) (any_from ys x m h)

  pub any_has : (xs : List X) → list_any p xs ≡ true → (x : X) × Member x xs × (p x ≡ true)
  any_has [] h = absurd (false≢true h)
  any_has (y ∷ ys) h =
      elim (or_cases (p y) (list_any p ys) h) [
        | inl e ↦ (y, inl refl, e)
        | inr e ↦ let r = any_has ys e in (r.0, inr r.1, r.2)
      ]

  pub all_has : (xs : List X) (x : X) → list_all p xs ≡ true → Member x xs → p x ≡ true
  all_has [] x h m = elim m [ ]
  all_has (y ∷ ys) x h (inl e) = ap p (sym e) ∙ (and_parts (p y) (list_all p ys) h).0
  all_has (y ∷ ys) x h (inr m) = all_has ys x (and_parts (p y) (list_all p ys) h).1 m

  pub all_from : (xs : List X) → ((x : X) → Member x xs → p x ≡ true) → list_all p xs ≡ true
  all_from [] h = refl
  all_from (y ∷ ys) h = and_from (p y) (list_all p ys) (h y (inl refl)) (all_from ys (λ x m. h x (inr m)))

  pub all_fails : (xs : List X) → list_all p xs ≡ false → (x : X) × Member x xs × (p x ≡ false)
  all_fails [] h = absurd (true≢false h)
  all_fails (y ∷ ys) h =
      elim (and_cases (p y) (list_all p ys) h) [
        | inl e ↦ (y, inl refl, e)
        | inr e ↦ let r = all_fails ys e in (r.0, inr r.1, r.2)
      ]

module _ {X : Type 0} where
  pub member_left : (x : X) (xs ys : List X) → Member x xs → Member x (xs ++ ys)
  member_left x [] ys m = elim m [ ]
  member_left x (z ∷ zs) ys (inl e) = inl e
  member_left x (z ∷ zs) ys (inr m) = inr (member_left x zs ys m)

  pub member_right : (x : X) (xs ys : List X) → Member x ys → Member x (xs ++ ys)
  member_right x [] ys m = m
  member_right x (z ∷ zs) ys m = inr (member_right x zs ys m)

  pub member_cases : (x : X) (xs ys : List X) → Member x (xs ++ ys) → Member x xs ⊎ Member x ys
  member_cases x [] ys m = inr m
  member_cases x (z ∷ zs) ys (inl e) = inl (inl e)
  member_cases x (z ∷ zs) ys (inr m) =
      elim (member_cases x zs ys m) [ inl k ↦ inl (inr k) | inr k ↦ inr k ]
