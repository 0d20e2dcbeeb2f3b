-- The count of apart is the greatest number of slots at which a filling that fits lets the tables differ.
use Rattle.std.proofs.Common.{◌≡◌, ℕ, zero, suc, ◌+◌, ◌<◌, ◌≤◌, Bool, true, false, cond, not, eqb, ◌⊎◌, List, [], ◌∷◌, map, length, filter, sym, refl, ap, ◌∙◌, subst, inl, inr, arith}
use lib.ListN.{length-map}
use Rattle.std.specs.List.{range_with_len}
use Rattle.std.proofs.lemmas.List.FromFn.{length-range_with_len}
use Rattle.std.proofs.lemmas.Bool.{both_ways, cases_Bool, cond-false, cond-true, not_from_false, not_from_true, not-true}
use Rattle.links.specs.Lists.{Member}
use Rattle.arrangement.specs.Meaning.{Meaning, lowest}
use Rattle.statement.specs.declared.Statement.{Statement}
use Rattle.meaning.specs.declared.apart.Apart.TheVariants.{NoLimit, Limit}
use Rattle.meaning.specs.declared.column.Column.{Column}
use Rattle.meaning.specs.declared.column.Column.TheVariants.{At, Elsewhere}
use Rattle.meaning.specs.Answers.{apart, bits_of, classes_below, column_numbered, filled, unlike_columns}
use Rattle.meaning.specs.Columns.{AlikeAt, alike_at, at, columns, columns_below, links_at, marks_at}
use Rattle.meaning.specs.Fillings.{Fillable, Filling, FitsAll, Named, Orderly, Setting}
use Rattle.meaning.specs.Theorems.{ApartIsGreatest, CanDiffer, Distinct, Limits}
use Rattle.meaning.proofs.Cells.{cell_alike}
use Rattle.meaning.proofs.ClassNumbers.{numbered_beyond, numbered_class}
use Rattle.meaning.proofs.ColumnList.{column_cases}
use Rattle.meaning.proofs.Complete.{filled_fits}
use Rattle.meaning.proofs.Deciding.{fillable_passes}
use Rattle.meaning.proofs.Marks.{alike_means}
use Rattle.meaning.proofs.Sound.{Shows, alike_holds, some_column}

-- Counting: a list of distinct numbers, each with a partner of its own in another list, is no longer than that list.

module _ {Y : Type 0} where
  -- the list without the member
  without : (ys : List Y) (y : Y) → Member y ys → List Y
  without [] y m = elim m [ ]
  without (z ∷ zs) y (inl e) = zs
  without (z ∷ zs) y (inr m) = z ∷ without zs y m

  without_length : (ys : List Y) (y : Y) (m : Member y ys) → length ys ≡ suc (length (without ys y m))
  unfolding without
  without_length [] y m = elim m [ ]
  without_length (z ∷ zs) y (inl e) = refl
  without_length (z ∷ zs) y (inr m) = ap suc (without_length zs y m)

  without_has : (ys : List Y) (y : Y) (m : Member y ys) (u : Y) → Member u ys → (y ≡ u) ⊎ Member u (without ys y m)
  unfolding without
  without_has [] y m u n = elim m [ ]
  without_has (z ∷ zs) y (inl e) u (inl d) = inl (sym e ∙ d)
  without_has (z ∷ zs) y (inl e) u (inr n) = inr n
  without_has (z ∷ zs) y (inr m) u (inl d) = inr (inl d)
  without_has (z ∷ zs) y (inr m) u (inr n) = elim (without_has zs y m u n) [ inl d ↦ inl d | inr k ↦ inr (inr k) ]

  module _ (Partner : ℕ → Y → Type 0) (own : (m n : ℕ) (y : Y) → Partner m y → Partner n y → m ≡ n) where
    pub no_longer : (ns : List ℕ) (ys : List Y) → Distinct ns
        → ((n : ℕ) → Member n ns → (y : Y) × Member y ys × Partner n y) → length ns ≤ length ys
    no_longer [] ys d partners = omega arith
    no_longer (n ∷ ns) ys d partners =
        let r = partners n (inl refl) in
        let y = r.0 in
        let left = without ys y r.1 in
        let fewer : length ns ≤ length left = no_longer ns left d.1 (λ m k.
        let q = partners m (inr k) in
        elim (without_has ys y r.1 q.0 q.1) [
          | inl e ↦
              let same : m ≡ n = own m n q.0 q.2 (subst (Partner n) e r.2) in
              absurd (d.0 (subst (λ x. Member x ns) same k))
          | inr l ↦ (q.0, l, q.2)
        ]) in
        omega (arith, without_length ys y r.1)

kept_has : {Y : Type 0} (p : Y → Bool) (ys : List Y) (y : Y) → Member y ys → p y ≡ true → Member y (filter p ys)
kept_has p [] y m h = elim m [ ]
kept_has p (z ∷ zs) y (inl e) h = rw (ap p e ∙ h) (inl e)
kept_has {Y} p (z ∷ zs) y (inr m) h = go (p z) (kept_has p zs y m h)
  where
    go : (b : Bool) → Member y (filter p zs) → Member y (cond b (z ∷ filter p zs) (filter p zs))
    go true k = inr k
    go false k = k

kept_from : {Y : Type 0} (p : Y → Bool) (ys : List Y) (y : Y) → Member y (filter p ys) → Member y ys × (p y ≡ true)
kept_from p [] y m = elim m [ ]
kept_from {Y} p (z ∷ zs) y m = go (kept_from p zs y) (p z) refl m
  where
    go : (Member y (filter p zs) → Member y zs × (p y ≡ true))
        → (b : Bool) → p z ≡ b → Member y (cond b (z ∷ filter p zs) (filter p zs)) → Member y (z ∷ zs) × (p y ≡ true)
    go ih true e (inl q) = (inl q, subst (λ x. p x ≡ true) q e)
    go ih true e (inr k) = let r = ih k in (inr r.0, r.1)
    go ih false e k = let r = ih k in (inr r.0, r.1)

map_has : {X Y : Type 0} (g : X → Y) (xs : List X) (y : Y) → Member y (map g xs) → (x : X) × Member x xs × (g x ≡ y)
map_has g [] y m = elim m [ ]
map_has g (z ∷ zs) y (inl e) = (z, inl refl, e)
map_has g (z ∷ zs) y (inr m) = let r = map_has g zs y m in (r.0, inr r.1, r.2)

counting_above : (a n x : ℕ) → Member x (range_with_len a n) → a ≤ x
counting_above a zero x m = elim m [ ]
counting_above a (suc n) x (inl e) = omega arith
counting_above a (suc n) x (inr m) = omega (arith, counting_above (a + 1) n x m)

counting_distinct : (a n : ℕ) → Distinct (range_with_len a n)
counting_distinct a zero = tt
counting_distinct a (suc n) = ((λ m. omega (arith, counting_above (a + 1) n a m)), counting_distinct (a + 1) n)

-- The slot numbers of columns.

abbrev number_of : Meaning → Column → ℕ
number_of m (At c) = classes_below m c.0
number_of m Elsewhere = 0

module _ (m : Meaning) (p : Column → Bool) (not-elsewhere : p Elsewhere ≡ false) where
  abbrev kept : ℕ → List Column
  kept n = filter p (columns_below m n)

  -- the numbers are distinct, and below the number of classes
  abbrev Apart_below : List ℕ → ℕ → Type 0
  Apart_below ns bound = Distinct ns × ((x : ℕ) → Member x ns → x < bound)

  one_more : (ns : List ℕ) (n : ℕ) → Apart_below ns n → Apart_below (n ∷ ns) (suc n)
  one_more ns n h = (((λ k. omega (arith, h.1 n k)), h.0), under)
    where
      under : (x : ℕ) → Member x (n ∷ ns) → x < suc n
      under x (inl e) = omega arith
      under x (inr k) = omega (arith, h.1 x k)

  kept_apart : (n : ℕ) → Apart_below (map (number_of m) (kept n)) (classes_below m n)
  kept_apart zero =
      subst (λ (b : Bool). Apart_below (map (number_of m) (cond b (Elsewhere ∷ []) [])) 0) (sym not-elsewhere) (tt, λ x k. elim k [ ])
  kept_apart (suc n) = go (kept_apart n) (eqb (lowest m n) n) (p (at n)) refl
    where
      go : Apart_below (map (number_of m) (kept n)) (classes_below m n) → (b c : Bool) → p (at n) ≡ c
          → Apart_below (map (number_of m) (filter p (cond b (at n ∷ columns_below m n) (columns_below m n))))
          (cond b (suc (classes_below m n)) (classes_below m n))
      go ih false c e = ih
      go ih true true e =
          subst (λ (t : Bool). Apart_below (map (number_of m) (cond t (at n ∷ kept n) (kept n))) (suc (classes_below m n))) (sym e)
          (one_more (map (number_of m) (kept n)) (classes_below m n) ih)
      go ih true false e =
          subst (λ (t : Bool). Apart_below (map (number_of m) (cond t (at n ∷ kept n) (kept n))) (suc (classes_below m n))) (sym e)
          (ih.0, λ x k. omega (arith, ih.1 x k))

-- n is the slot number of the column's class
abbrev SlotOf : Filling → ℕ → Column → Type 0
SlotOf f n k = (c : ℕ) × (at c ≡ k) × (f.slot c ≡ n)

at_inj : {c d : ℕ} → at c ≡ at d → c ≡ d
at_inj {c} {d} e = ap (λ (k : Column). elim k [ At s ↦ s.0 | Elsewhere ↦ 0 ]) e

limited : {s c : ℕ} → Limit s c ≡ NoLimit → ⊥
limited {s} {c} e = let z : ◌≡◌ {A = ℕ} 0 1 = cc in omega arith

count_of : {s t c d : ℕ} → Limit s c ≡ Limit t d → c ≡ d
count_of {s} {t} {c} {d} e = cc

module _ (w : Setting) (laws : Orderly w) (xs : List Statement) (named : Named w xs) (some : Fillable w xs) (a b : ℕ) where
  abbrev unlike : Column → Bool
  unlike k = not (alike_at w xs (a, b) k)

  alike_at_lem : (k : Column) → alike_at w xs (a, b) k ≡ true → AlikeAt w xs (a, b) k
  unfolding alike_at
  alike_at_lem k h = (alike_means w.readings (links_at w xs k) (marks_at w xs k) a b).0 h

  -- the filling that is built has different numbers wherever the tables are not alike
  filled_unlike : (n : ℕ) → alike_at w xs (a, b) (column_numbered w n) ≡ false → ¬ ((filled w 0 xs).holds a n ≡ (filled w 0 xs).holds b n)
  unfolding filled alike_at
  filled_unlike n h e =
      let k = column_numbered w n in
      both_ways (alike_at w xs (a, b) k) h
      ((alike_means w.readings (links_at w xs k) (marks_at w xs k) a b).1 (cell_alike w laws xs named k 0 a b e))

  fits : FitsAll w xs (filled w 0 xs)
  fits = filled_fits w laws xs named (fillable_passes w laws xs named some) 0

  module _ (limit : alike_at w xs (a, b) Elsewhere ≡ true) where
    attains : CanDiffer w xs a b (length (unlike_columns w xs (a, b)))
    unfolding columns
    attains = (
      filled w 0 xs,
      fits,
      (
        map (number_of S) (unlike_columns w xs (a, b)),
        record {
          distinct = (kept_apart S unlike (not_from_true (alike_at w xs (a, b) Elsewhere) limit) S.size).0;
          differ = λ n m. let r = map_has (number_of S) (unlike_columns w xs (a, b)) n m in differs n r.0 r.1 r.2;
        },
        length-map (unlike_columns w xs (a, b)) (number_of S),
      ),
    )
      where
        S : Meaning
        S = w.slots

        differs : (n : ℕ) (k : Column) → Member k (unlike_columns w xs (a, b)) → number_of w.slots k ≡ n
            → ¬ ((filled w 0 xs).holds a n ≡ (filled w 0 xs).holds b n)
        differs n k m e =
            let r = kept_from unlike (columns w) k m in
            let parts = not-true (alike_at w xs (a, b) k) r.1 in
            elim (column_cases w k r.0) [
              | inl q ↦ absurd (both_ways (alike_at w xs (a, b) k) parts (subst (λ k. alike_at w xs (a, b) k ≡ true) q limit))
              | inr q ↦
                  let c = q.0 in
                  let same : column_numbered w n ≡ k =
                  ap (column_numbered w) (sym e ∙ ap (number_of w.slots) (sym q.3)) ∙ numbered_class w laws.slots c q.1 q.2 ∙ q.3 in
                  filled_unlike n (subst (λ k. alike_at w xs (a, b) k ≡ false) (sym same) parts)
            ]

    -- of each slot number at which a filling differs the class is one at which the tables are not alike
    exceeds_none : (n : ℕ) → CanDiffer w xs a b n → n ≤ length (unlike_columns w xs (a, b))
    exceeds_none n can =
        let f = can.0 in
        let fit = can.1 in
        let slots = can.2.0 in
        let differ = can.2.1 in
        let bound : length slots ≤ length (unlike_columns w xs (a, b)) =
        no_longer (SlotOf f) (own f) slots (unlike_columns w xs (a, b)) differ.distinct (λ x m. class_of f fit x (differ.differ x m)) in
        omega (arith, can.2.2)
      where
        own : (f : Filling) (m n : ℕ) (k : Column) → SlotOf f m k → SlotOf f n k → m ≡ n
        own f m n k p q = sym p.2 ∙ ap f.slot (at_inj (p.1 ∙ sym q.1)) ∙ q.2

        class_of : (f : Filling) → FitsAll w xs f → (n : ℕ) → ¬ (f.holds a n ≡ f.holds b n)
            → (k : Column) × Member k (unlike_columns w xs (a, b)) × SlotOf f n k
        class_of f fit n ne =
            let r = some_column w laws.slots xs f fit n in
            let k = r.0 in
            let parts : alike_at w xs (a, b) k ≡ false = elim (cases_Bool (alike_at w xs (a, b) k)) [
              | inl yes' ↦ absurd (ne (alike_holds w xs named f fit k n r.2 a b (alike_at_lem k yes')))
              | inr parts ↦ parts
            ] in
            let m = kept_has unlike (columns w) k r.1 (not_from_false (alike_at w xs (a, b) k) parts) in
            elim (column_cases w k r.1) [
              | inl q ↦ absurd (both_ways (alike_at w xs (a, b) k) parts (subst (λ k. alike_at w xs (a, b) k ≡ true) q limit))
              | inr q ↦
                  let there : Shows w f (at q.0) n = subst (λ k. Shows w f k n) (sym q.3) r.2 in
                  (k, m, (q.0, q.3, (there q.0 q.1).0 (laws.slots.itself q.0 q.1)))
            ]

  -- elsewhere there are slot numbers without end
  endless : alike_at w xs (a, b) Elsewhere ≡ false → (n : ℕ) → CanDiffer w xs a b n
  endless parts n = (
    filled w 0 xs,
    fits,
    (
      range_with_len from n,
      record {
        distinct = counting_distinct from n;
        differ = λ x m. filled_unlike x
            (subst (λ k. alike_at w xs (a, b) k ≡ false) (sym (numbered_beyond w laws.slots x (counting_above from n x m))) parts);
      },
      length-range_with_len from n,
    ),
  )
    where
      from : ℕ
      from = classes_below w.slots w.slots.size

  limits_alike : alike_at w xs (a, b) Elsewhere ≡ true → Limits w xs a b (apart w xs a b)
  unfolding apart
  limits_alike yes' =
      let columns = unlike_columns w xs (a, b) in
      let is : apart w xs a b ≡ Limit (bits_of columns) (length columns) = cond-true (alike_at w xs (a, b) Elsewhere) _ NoLimit yes' in
      record {
        attained = λ set count e. subst (CanDiffer w xs a b) (count_of (sym is ∙ e)) (attains yes');
        greatest = λ set count e n can. subst (λ (c : ℕ). n ≤ c) (count_of (sym is ∙ e)) (exceeds_none yes' n can);
        unlimited = (
          (λ e. absurd (limited (sym is ∙ e))),
          (λ more. let r = more (length columns) in absurd (omega (arith, r.1, exceeds_none yes' r.0 r.2))),
        );
      }

  limits_unlike : alike_at w xs (a, b) Elsewhere ≡ false → Limits w xs a b (apart w xs a b)
  unfolding apart
  limits_unlike parts =
      let is : apart w xs a b ≡ NoLimit = cond-false (alike_at w xs (a, b) Elsewhere) _ NoLimit parts in
      record {
        attained = λ set count e. endless parts count;
        greatest = λ set count e. absurd (limited (sym e ∙ is));
        unlimited = ((λ e n. (suc n, omega arith, endless parts (suc n))), λ _. is);
      }

pub apart_is_greatest : ApartIsGreatest
apart_is_greatest w laws xs named some a b =
    elim (cases_Bool (alike_at w xs (a, b) Elsewhere)) [
      | inl yes' ↦ limits_alike w laws xs named some a b yes'
      | inr parts ↦ limits_unlike w laws xs named some a b parts
    ]
