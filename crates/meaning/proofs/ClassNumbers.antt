-- The numbers of the slot classes, and the columns of slot numbers.
use Rattle.std.proofs.Common.{◌≡◌, ℕ, zero, suc, ◌<◌, ◌≤◌, Bool, true, false, cond, ◌&&◌, eqb, ◌⊎◌, ◌↔◌, sym, refl, ap, ◌∙◌, subst, inl, inr, arith}
use Rattle.std.proofs.lemmas.Bool.{and_from, and_parts, both_ways, cases_lt, cases_order, eq-eqb, eqb-true, false≢true}
use Rattle.links.specs.Lists.{Member}
use Rattle.arrangement.specs.Meaning.{Lawful, Meaning, lowest, same}
use Rattle.arrangement.specs.Lowest.{lowest_in, lowest-le, lowest_same, lowest_twice}
use Rattle.meaning.specs.declared.column.Column.{Column}
use Rattle.meaning.specs.declared.column.Column.TheVariants.{Elsewhere}
use Rattle.meaning.specs.Answers.{class_number, classes_below, column_numbered, column_of, numbered_below}
use Rattle.meaning.specs.Columns.{at, columns, here}
use Rattle.meaning.specs.Fillings.{Numbered, Setting}
use Rattle.meaning.proofs.ColumnList.{column_cases, has_at, has_elsewhere}

module _ (m : Meaning) where
  below_step : (c : ℕ) → classes_below m c ≤ classes_below m (suc c)
  below_step c =
      elim (eqb (lowest m c) c) as (λ b. classes_below m c ≤ cond b (suc (classes_below m c)) (classes_below m c)) [
        | true ↦ omega arith
        | false ↦ omega arith
      ]

  below_lowest : (c : ℕ) → lowest m c ≡ c → classes_below m (suc c) ≡ suc (classes_below m c)
  below_lowest c e = ap (λ b. cond b (suc (classes_below m c)) (classes_below m c)) (eq-eqb (lowest m c) c e)

  pub below_more : (c d : ℕ) → lowest m c ≡ c → c < d → classes_below m c < classes_below m d
  below_more c zero e l = absurd (omega arith)
  below_more c (suc d) e l =
      elim (cases_lt c d) [
        | inl k ↦ omega (arith, below_more c d e k, below_step d)
        | inr k ↦
            let q : c ≡ d = omega arith in
            subst (λ d. classes_below m c < classes_below m (suc d)) q (omega (arith, below_lowest c e))
      ]

  pub below_same : (c d : ℕ) → lowest m c ≡ c → lowest m d ≡ d → classes_below m c ≡ classes_below m d → c ≡ d
  below_same c d p q h =
      elim (cases_order c d) [
        | inl e ↦ e
        | inr o ↦ elim o [
          | inl l ↦ absurd (omega (arith, below_more c d p l))
          | inr l ↦ absurd (omega (arith, below_more d c q l))
        ]
      ]

  -- the number n is that of a class below the bound, whose column r is; or of none, and r is elsewhere
  abbrev OfClass : ℕ → ℕ → Column → Type 0
  OfClass n bound r = (c : ℕ) × (c < bound) × (lowest m c ≡ c) × (classes_below m c ≡ n) × (r ≡ at c)

  abbrev OfNone : ℕ → ℕ → Column → Type 0
  OfNone n bound r = ((c : ℕ) → c < bound → lowest m c ≡ c → classes_below m c ≡ n → ⊥) × (r ≡ Elsewhere)

  below_split : (n bound : ℕ) → OfClass n bound (numbered_below m n bound) ⊎ OfNone n bound (numbered_below m n bound)
  below_split n zero = inr ((λ c l. absurd (omega arith)), refl)
  below_split n (suc b) = go (below_split n b) (eqb (lowest m b) b && eqb (classes_below m b) n) refl
    where
      go : OfClass n b (numbered_below m n b) ⊎ OfNone n b (numbered_below m n b)
          → (t : Bool) → (eqb (lowest m b) b && eqb (classes_below m b) n) ≡ t
          → OfClass n (suc b) (cond t (at b) (numbered_below m n b)) ⊎ OfNone n (suc b) (cond t (at b) (numbered_below m n b))
      go ih true e =
          let r = and_parts (eqb (lowest m b) b) (eqb (classes_below m b) n) e in
          inl (b, omega arith, eqb-true (lowest m b) b r.0, eqb-true (classes_below m b) n r.1, refl)
      go (inl r) false e = inl (r.0, omega arith, r.2, r.3, r.4)
      go (inr r) false e = inr (
        λ c l p q.
            elim (cases_lt c b) [
              | inl h ↦ r.0 c h p q
              | inr h ↦
                  let d : c ≡ b = omega arith in
                  both_ways (eqb (lowest m b) b && eqb (classes_below m b) n) e
                  (and_from (eqb (lowest m b) b) (eqb (classes_below m b) n)
                  (eq-eqb (lowest m b) b (subst (λ c. lowest m c ≡ c) d p))
                  (eq-eqb (classes_below m b) n (subst (λ c. classes_below m c ≡ n) d q)))
            ],
        r.1,
      )

module _ (w : Setting) (law : Lawful w.slots) where
  abbrev S : Meaning
  S = w.slots

  split : (n : ℕ) → OfClass S n S.size (column_numbered w n) ⊎ OfNone S n S.size (column_numbered w n)
  unfolding column_numbered
  split n = below_split S n S.size

  pub numbered_in : (n : ℕ) → Member (column_numbered w n) (columns w)
  numbered_in n =
      elim (split n) [
        | inl r ↦ subst (λ k. Member k (columns w)) (sym r.4) (has_at w r.0 r.1 r.2)
        | inr r ↦ subst (λ k. Member k (columns w)) (sym r.1) (has_elsewhere w)
      ]

  -- beyond the slot classes all numbers are elsewhere
  pub numbered_beyond : (n : ℕ) → classes_below S S.size ≤ n → column_numbered w n ≡ Elsewhere
  numbered_beyond n l =
      elim (split n) [
        | inl r ↦ absurd (omega (arith, below_more S r.0 S.size r.2 r.1, r.3))
        | inr r ↦ r.1
      ]

  -- a number that no slot name has is elsewhere
  pub numbered_none : (n : ℕ) → ((i : ℕ) → i < S.size → ¬ (class_number S i ≡ n)) → column_numbered w n ≡ Elsewhere
  unfolding class_number
  numbered_none n never =
      elim (split n) [
        | inl r ↦ absurd (never r.0 r.1 (ap (classes_below S) r.2 ∙ r.3))
        | inr r ↦ r.1
      ]

  -- the column of a class's number is the class's
  pub numbered_class : (c : ℕ) → c < S.size → lowest S c ≡ c → column_numbered w (classes_below S c) ≡ at c
  numbered_class c l h =
      elim (split (classes_below S c)) [
        | inl r ↦ r.4 ∙ ap at (below_same S r.0 c r.2 h r.3)
        | inr r ↦ absurd (r.0 c l h refl)
      ]

  pub numbered_slot : (i : ℕ) → i < S.size → column_numbered w (class_number S i) ≡ column_of w i
  unfolding class_number
  numbered_slot i l = numbered_class (lowest S i) (omega (arith, lowest-le S law i)) (lowest_twice S law i l)

  -- each column is a number's
  pub number_of : (k : Column) → Member k (columns w) → (n : ℕ) × (column_numbered w n ≡ k)
  number_of k mem =
      elim (column_cases w k mem) [
        | inl e ↦ (classes_below S S.size, numbered_beyond (classes_below S S.size) (omega arith) ∙ e)
        | inr r ↦ (classes_below S r.0, numbered_class r.0 r.1 r.2 ∙ r.3)
      ]

  pub numbered_shows : (n i : ℕ) → i < S.size → (here w (column_numbered w n) i ≡ true) ↔ (class_number S i ≡ n)
  unfolding class_number
  numbered_shows n i l =
      elim (split n) [
        | inl r ↦
            let c = r.0 in
            subst (λ k. (here w k i ≡ true) ↔ (classes_below S (lowest S i) ≡ n)) (sym r.4) (
              (λ h. ap (classes_below S) (sym (lowest_same S law c i h) ∙ r.2) ∙ r.3),
              (λ e.
                  let q = below_same S (lowest S i) c (lowest_twice S law i l) r.2 (e ∙ sym r.3) in
                  subst (λ x. same S x i ≡ true) q (lowest_in S law i l)),
            )
        | inr r ↦
            subst (λ k. (here w k i ≡ true) ↔ (classes_below S (lowest S i) ≡ n)) (sym r.1) (
              (λ h. absurd (false≢true h)),
              (λ e. absurd (r.0 (lowest S i) (omega (arith, lowest-le S law i)) (lowest_twice S law i l) e)),
            )
      ]

  pub slots_numbered : Numbered S (class_number S)
  unfolding class_number
  slots_numbered i j l k = (
    (λ h.
        let q = below_same S (lowest S i) (lowest S j) (lowest_twice S law i l) (lowest_twice S law j k) h in
        law.through i (lowest S i) j (law.back (lowest S i) i (lowest_in S law i l))
        (subst (λ x. same S x j ≡ true) (sym q) (lowest_in S law j k))),
    (λ h. ap (classes_below S) (lowest_same S law i j h)),
  )
