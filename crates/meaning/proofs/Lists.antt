-- What is there among gaps, two of a list, the first that passes, and parts of a list.
use Rattle.std.proofs.Common.{◌≡◌, ℕ, zero, suc, Bool, true, false, cond, List, [], ◌∷◌, ◌++◌, map, Some, None, Option, sym, refl, ap, ◌∙◌, subst, inl, inr, arith}
use Rattle.std.specs.List.{list_any}
use Rattle.std.proofs.lemmas.Bool.{both_ways}
use Rattle.links.specs.Lists.{Member, present}
use Rattle.links.proofs.Lists.{any_from, any_has, member_cases, member_left, member_right}
use Rattle.meaning.specs.Answers.{first_that}
use Rattle.meaning.specs.Theorems.{Within, omit}

pub some_inj : {X : Type 0} {x y : X} → Some x ≡ Some y → x ≡ y
some_inj e = cc

pub none_some : {X : Type 0} {x : X} → None ≡ Some x → ⊥
none_some {X} {x} e = let z : ◌≡◌ {A = ℕ} 0 1 = cc in omega arith

module _ {X Y : Type 0} (f : X → Option Y) where
  pub present_has : (xs : List X) (y : Y) → Member y (present (map f xs)) → (x : X) × Member x xs × (f x ≡ Some y)
  present_has [] y m = elim m [ ]
  present_has (z ∷ zs) y m = go (present_has zs y) (f z) refl m
    where
      go : (Member y (present (map f zs)) → (x : X) × Member x zs × (f x ≡ Some y))
          → (o : Option Y) → f z ≡ o → Member y (present (o ∷ map f zs)) → (x : X) × Member x (z ∷ zs) × (f x ≡ Some y)
      go ih None e m = let r = ih m in (r.0, inr r.1, r.2)
      go ih (Some u) e (inl q) = (z, inl refl, e ∙ ap Some q)
      go ih (Some u) e (inr m) = let r = ih m in (r.0, inr r.1, r.2)

  pub present_from : (xs : List X) (x : X) (y : Y) → Member x xs → f x ≡ Some y → Member y (present (map f xs))
  present_from [] x y m h = elim m [ ]
  present_from (z ∷ zs) x y (inl e) h =
      subst (λ (o : Option Y). Member y (present (o ∷ map f zs))) (sym (ap f e ∙ h)) (inl refl)
  present_from (z ∷ zs) x y (inr m) h = go (f z) (present_from zs x y m h)
    where
      go : (o : Option Y) → Member y (present (map f zs)) → Member y (present (o ∷ map f zs))
      go None m = m
      go (Some u) m = inr m

module _ {X : Type 0} (p : X → X → Bool) where
  pub two_has : (xs : List X) → list_any (λ x. list_any (p x) xs) xs ≡ true → (x y : X) × Member x xs × Member y xs × (p x y ≡ true)
  two_has xs h =
      let r = any_has (λ x. list_any (p x) xs) xs h in
      let q = any_has (p r.0) xs r.2 in
      (r.0, q.0, r.1, q.1, q.2)

  pub two_from : (xs : List X) (x y : X) → Member x xs → Member y xs → p x y ≡ true → list_any (λ x. list_any (p x) xs) xs ≡ true
  two_from xs x y m k h = any_from (λ x. list_any (p x) xs) xs x m (any_from (p x) xs y k h)

-- the first that passes is one that does, or none does
abbrev pub Found : {X : Type 0} → (X → Bool) → List X → Option X → Type 0
Found {X} p xs None = (x : X) → Member x xs → p x ≡ true → ⊥
Found p xs (Some x) = Member x xs × (p x ≡ true)

pub first_found : {X : Type 0} (p : X → Bool) (xs : List X) → Found p xs (first_that p xs)
first_found p [] = λ x m. elim m [ ]
first_found {X} p (y ∷ ys) = go (p y) refl (first_that p ys) (first_found p ys)
  where
    never : p y ≡ false → Found p ys None → Found p (y ∷ ys) None
    never e f x (inl q) h = both_ways (p y) e (ap p q ∙ h)
    never e f x (inr m) h = f x m h

    go : (b : Bool) → p y ≡ b → (o : Option X) → Found p ys o → Found p (y ∷ ys) (cond b (Some y) o)
    go true e o f = (inl refl, e)
    go false e None f = never e f
    go false e (Some x) f = (inr f.0, f.1)

module _ {X : Type 0} where
  pub within_more : (x : X) (xs ys : List X) → Within xs ys → Within (x ∷ xs) (x ∷ ys)
  within_more x xs ys w z (inl e) = inl e
  within_more x xs ys w z (inr m) = inr (w z m)

  pub omit_within : (i : ℕ) (xs : List X) → Within (omit i xs) xs
  omit_within i [] x m = elim m [ ]
  omit_within zero (y ∷ ys) x m = inr m
  omit_within (suc i) (y ∷ ys) x (inl e) = inl e
  omit_within (suc i) (y ∷ ys) x (inr m) = inr (omit_within i ys x m)

  pub after_within : (before xs ys : List X) → Within xs ys → Within (before ++ xs) (before ++ ys)
  after_within before xs ys h x m =
      elim (member_cases x before xs m) [
        | inl k ↦ member_left x before ys k
        | inr k ↦ member_right x before ys (h x k)
      ]
