-- What a table of standing statements keeps, when it grows and when it shrinks.
use Rattle.std.proofs.Common.{◌≡◌, ℕ, zero, suc, ◌≤◌, Bool, true, not, ◌&&◌, ltb, List, [], ◌∷◌, ◌++◌, length, sym, refl, ap, subst, inl, inr, arith}
use Rattle.std.specs.List.{list_all, remove}
use Rattle.std.proofs.lemmas.Bool.{and_from, and_parts, lt-ltb, ltb-true}
use Rattle.links.proofs.Lists.{all_from, all_has, member_cases}
use Rattle.arrangement.specs.Kept.{lawful}
use Rattle.statement.specs.declared.Statement.{Statement}
use Rattle.meaning.specs.Columns.{clash, clash_at, columns, differences, links_at, marks_at, parted, test}
use Rattle.meaning.specs.Fillings.{Named, Orderly, Setting, is_named, is_within, tables_of}
use Rattle.meaning.specs.Theorems.{Within, omit}
use Rattle.meaning.proofs.Blame.{parts_fit}
use Rattle.meaning.proofs.Deciding.{fillable_passes, passes_fillable}
use Rattle.meaning.proofs.Lists.{omit_within}
use Rattle.column.specs.declared.naming.Naming.{Naming}
use Rattle.column.specs.Naming.{setting_of}
use Rattle.column.specs.Sights.{Readable}
use Rattle.standing.specs.Kept.{is_standing}

-- Names below the counts.

tables_more : (t n : ℕ) → t ≤ n → (ts : List ℕ) → list_all (λ k. ltb k t) ts ≡ true → list_all (λ k. ltb k n) ts ≡ true
tables_more t n l ts h =
    all_from (λ k. ltb k n) ts (λ k m. lt-ltb k n (omega (arith, ltb-true k t (all_has (λ k. ltb k t) ts k h m))))

within_more : (t n : ℕ) (w : Setting) → t ≤ n → (x : Statement) → is_within t w x ≡ true → is_within n w x ≡ true
within_more t n w l x h =
    let p = and_parts (list_all (λ k. ltb k t) (tables_of x)) (is_named w x) h in
    and_from (list_all (λ k. ltb k n) (tables_of x)) (is_named w x) (tables_more t n l (tables_of x) p.0) p.1

within_named : (t : ℕ) (w : Setting) (xs : List Statement) → list_all (is_within t w) xs ≡ true → Named w xs
within_named t w xs h x m =
    (and_parts (list_all (λ k. ltb k t) (tables_of x)) (is_named w x) (all_has (is_within t w) xs x h m)).1

-- Nothing, and parts.

nothing_fits : (w : Setting) → test w [] ≡ true
unfolding test clash_at clash links_at marks_at differences
nothing_fits w =
    and_from (list_all (λ k. not (clash_at w [] k)) (columns w)) (list_all (parted w []) (differences []))
    (all_from (λ k. not (clash_at w [] k)) (columns w) (λ k m. refl)) refl

orderly : (n : Naming) → Orderly (setting_of n)
orderly n = record { slots = lawful n.slots; readings = lawful n.readings }

push_within : {X : Type 0} (x : X) (xs : List X) → Within (xs ++ x ∷ []) (x ∷ xs)
push_within x xs y m =
    elim (member_cases y xs (x ∷ []) m) [
      | inl k ↦ inr k
      | inr k ↦ elim k [ inl e ↦ inl e | inr n ↦ elim n [ ] ]
    ]

pub removed_omit : {X : Type 0} (k : ℕ) (xs : List X) → remove xs k ≡ omit k xs
removed_omit zero [] = refl
removed_omit (suc k) [] = refl
removed_omit zero (x ∷ xs) = refl
removed_omit (suc k) (x ∷ xs) = ap (λ l. x ∷ l) (removed_omit k xs)

pub omit_beyond : {X : Type 0} (k : ℕ) (xs : List X) → length xs ≤ k → omit k xs ≡ xs
omit_beyond k [] l = refl
omit_beyond zero (x ∷ xs) l = absurd (omega arith)
omit_beyond (suc k) (x ∷ xs) l = ap (λ ys. x ∷ ys) (omit_beyond k xs (omega arith))

-- What stands.

module _ (t : ℕ) (naming : Naming) where
  abbrev w : Setting
  w = setting_of naming

  abbrev within : List Statement → Bool
  within xs = list_all (is_within t w) xs

  pub nothing_stands : is_standing t naming [] ≡ true
  nothing_stands = nothing_fits w

  pub more_stands : (n : ℕ) → t ≤ n → (xs : List Statement) → is_standing t naming xs ≡ true → is_standing n naming xs ≡ true
  more_stands n l xs h =
      let p = and_parts (within xs) (test w xs) h in
      and_from (list_all (is_within n w) xs) (test w xs)
      (all_from (is_within n w) xs (λ x m. within_more t n w l x (all_has (is_within t w) xs x p.0 m))) p.1

  part_stands : (xs ys : List Statement) → Within xs ys → is_standing t naming ys ≡ true → is_standing t naming xs ≡ true
  part_stands xs ys part h =
      let p = and_parts (within ys) (test w ys) h in
      let all = all_from (is_within t w) xs (λ x m. all_has (is_within t w) ys x p.0 (part x m)) in
      and_from (within xs) (test w xs) all
      (fillable_passes w (orderly naming) xs (within_named t w xs all)
      (parts_fit.part w xs ys part (passes_fillable w (orderly naming) ys (within_named t w ys p.0) p.1)))

  pub omitted_stands : (k : ℕ) (xs : List Statement) → is_standing t naming xs ≡ true → is_standing t naming (omit k xs) ≡ true
  omitted_stands k xs h = part_stands (omit k xs) xs (omit_within k xs) h

  -- one that is offered, before those that stand; what is known of it is as a call answered
  module _ (x : Statement) (xs : List Statement) (h : is_standing t naming xs ≡ true) where
    offered_within : is_within t w x ≡ true → within (x ∷ xs) ≡ true
    offered_within named = and_from (is_within t w x) (within xs) named (and_parts (within xs) (test w xs) h).0

    pub offered_readable : t ≤ 128 → true ≡ is_within t w x → (ys : List Statement) → ys ≡ xs → Readable w (x ∷ ys)
    offered_readable few named ys lent =
        subst (λ (l : List Statement). Readable w (x ∷ l)) (sym lent)
        (λ y m. within_more t 128 w few y (all_has (is_within t w) (x ∷ xs) y (offered_within (sym named)) m))

    pub added_stands : true ≡ (is_within t w x && test w (x ∷ xs)) → is_standing t naming (xs ++ x ∷ []) ≡ true
    added_stands e =
        let p = and_parts (is_within t w x) (test w (x ∷ xs)) (sym e) in
        part_stands (xs ++ x ∷ []) (x ∷ xs) (push_within x xs)
        (and_from (within (x ∷ xs)) (test w (x ∷ xs)) (offered_within p.0) p.1)
