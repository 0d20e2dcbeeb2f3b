-- Where a filling fits, there is no clash, and no two tables that are to differ are alike at every column.
use Rattle.std.proofs.Common.{◌≡◌, ℕ, zero, suc, ◌+◌, ◌<◌, Bool, true, false, cond, ◌⊎◌, ◌↔◌, List, Some, None, Option, sym, refl, ap, ◌∙◌, subst, inl, inr, arith}
use Rattle.std.proofs.lemmas.Bool.{and_parts, both_ways, cases_eq, cases_lt, false≢true, ltb-true}
use Rattle.links.specs.Chains.{Joins}
use Rattle.links.specs.Lists.{Member}
use Rattle.links.proofs.Reach.{chain_keeps}
use Rattle.arrangement.specs.Meaning.{Lawful, Meaning, lowest, same}
use Rattle.arrangement.specs.Lowest.{lowest_in, lowest-le, lowest_twice}
use Rattle.statement.specs.declared.Statement.{Statement}
use Rattle.statement.specs.declared.Statement.TheVariants.{W, R, E, D}
use Rattle.meaning.specs.declared.column.Column.{Column}
use Rattle.meaning.specs.declared.column.Column.TheVariants.{Elsewhere}
use Rattle.meaning.specs.Columns.{AlikeAt, AlikeThroughout, ClashAt, SomeClash, at, columns, difference, differences, here, link_at, links_at, mark_at, marks_at}
use Rattle.meaning.specs.Fillings.{Equal, Filling, Fits, FitsAll, Named, Setting, below, is_named, reading_of, slot_of}
use Rattle.meaning.proofs.ColumnList.{column_cases, has_at, has_elsewhere}
use Rattle.meaning.proofs.Lists.{none_some, present_has, some_inj}

-- the names of a statement are below the counts
below_name : (count : ℕ) (o : Option ℕ) (i : ℕ) → o ≡ Some i → below count o ≡ true → i < count
below_name count o i e h = ltb-true i count (subst (λ (o : Option ℕ). below count o ≡ true) e h)

module _ (w : Setting) (x : Statement) (named : is_named w x ≡ true) where
  both : (below w.slots.size (slot_of x) ≡ true) × (below w.readings.size (reading_of x) ≡ true)
  both = and_parts (below w.slots.size (slot_of x)) (below w.readings.size (reading_of x)) named

  pub slot_named : (i : ℕ) → slot_of x ≡ Some i → i < w.slots.size
  slot_named i e = below_name w.slots.size (slot_of x) i e both.0

  pub reading_named : (v : ℕ) → reading_of x ≡ Some v → v < w.readings.size
  reading_named v e = below_name w.readings.size (reading_of x) v e both.1

-- the slot number n is one of the column
abbrev pub Shows : Setting → Filling → Column → ℕ → Type 0
Shows w f k n = (i : ℕ) → i < w.slots.size → (here w k i ≡ true) ↔ (f.slot i ≡ n)

-- What a statement says at a column.
module _ (w : Setting) (f : Filling) (k : Column) (n : ℕ) (shows : Shows w f k n) where
  abbrev Link : ℕ × ℕ → Type 0
  Link p = f.holds p.0 n ≡ f.holds p.1 n

  abbrev Mark : ℕ × ℕ → Type 0
  Mark p = f.holds p.0 n ≡ f.reading p.1

  link_holds : (x : Statement) → is_named w x ≡ true → Fits f x → (p : ℕ × ℕ) → link_at w k x ≡ Some p → Link p
  link_holds (W b a i v) nm fit p h = go (here w k i.0) refl h
    where
      go : (t : Bool) → here w k i.0 ≡ t → cond t None (Some (b.0, a.0)) ≡ Some p → Link p
      go true e h = absurd (none_some h)
      go false e h =
          subst Link (some_inj h)
          (fit.1 n (λ r. both_ways (here w k i.0) e ((shows i.0 (slot_named w (W b a i v) nm i.0 refl)).1 (sym r))))
  link_holds (R a i v) nm fit p h = absurd (none_some h)
  link_holds (E a b) nm fit p h = subst Link (some_inj h) (fit n)
  link_holds (D a b) nm fit p h = absurd (none_some h)

  -- where the statement marks a at slot i with v
  mark_one : (a i v : ℕ) → i < w.slots.size → f.holds a (f.slot i) ≡ f.reading v
      → (p : ℕ × ℕ) → cond (here w k i) (Some (a, v)) None ≡ Some p → Mark p
  mark_one a i v l fit p h = go (here w k i) refl h
    where
      go : (t : Bool) → here w k i ≡ t → cond t (Some (a, v)) None ≡ Some p → Mark p
      go true e h = subst Mark (some_inj h) (subst (λ s. f.holds a s ≡ f.reading v) ((shows i l).0 e) fit)
      go false e h = absurd (none_some h)

  mark_holds : (x : Statement) → is_named w x ≡ true → Fits f x → (p : ℕ × ℕ) → mark_at w k x ≡ Some p → Mark p
  mark_holds (W b a i v) nm fit p h = mark_one b.0 i.0 v.0 (slot_named w (W b a i v) nm i.0 refl) fit.0 p h
  mark_holds (R a i v) nm fit p h = mark_one a.0 i.0 v.0 (slot_named w (R a i v) nm i.0 refl) fit p h
  mark_holds (E a b) nm fit p h = absurd (none_some h)
  mark_holds (D a b) nm fit p h = absurd (none_some h)

difference_holds : (f : Filling) (x : Statement) → Fits f x → (p : ℕ × ℕ) → difference x ≡ Some p → ¬ Equal f p.0 p.1
difference_holds f (W b a i v) fit p h = absurd (none_some h)
difference_holds f (R a i v) fit p h = absurd (none_some h)
difference_holds f (E a b) fit p h = absurd (none_some h)
difference_holds f (D a b) fit p h = subst (λ (p : ℕ × ℕ). ¬ Equal f p.0 p.1) (some_inj h) fit

-- a mark has the reading of its statement
one_reading : (b : Bool) (a v : ℕ) (p : ℕ × ℕ) → cond b (Some (a, v)) None ≡ Some p → Some v ≡ Some p.1
one_reading true a v p h = ap (λ (p : ℕ × ℕ). Some p.1) (some_inj h)
one_reading false a v p h = absurd (none_some h)

pub mark_reading : (w : Setting) (k : Column) (x : Statement) (p : ℕ × ℕ) → mark_at w k x ≡ Some p → reading_of x ≡ Some p.1
mark_reading w k (W b a i v) p h = one_reading (here w k i.0) b.0 v.0 p h
mark_reading w k (R a i v) p h = one_reading (here w k i.0) a.0 v.0 p h
mark_reading w k (E a b) p h = absurd (none_some h)
mark_reading w k (D a b) p h = absurd (none_some h)

module _ (w : Setting) (xs : List Statement) (named : Named w xs) where
  pub marks_named : (k : Column) (p : ℕ × ℕ) → Member p (marks_at w xs k) → p.1 < w.readings.size
  unfolding marks_at
  marks_named k p m =
      let q = present_has (mark_at w k) xs p m in
      reading_named w q.0 (named q.0 q.1) p.1 (mark_reading w k q.0 p q.2)

  -- What a list says at a column.
  module _ (f : Filling) (fit : FitsAll w xs f) (k : Column) (n : ℕ) (shows : Shows w f k n) where
    pub chain_holds : (a b : ℕ) → Joins (links_at w xs k) a b → f.holds a n ≡ f.holds b n
    unfolding links_at
    chain_holds a b chain =
        chain_keeps (λ t. f.holds t n) (links_at w xs k)
        (λ p m.
        let q = present_has (link_at w k) xs p m in
        link_holds w f k n shows q.0 (named q.0 q.1) (fit.fits q.0 q.1) p q.2)
        a b chain.0 chain.1

    pub marks_hold : (p : ℕ × ℕ) → Member p (marks_at w xs k) → f.holds p.0 n ≡ f.reading p.1
    unfolding marks_at
    marks_hold p m =
        let q = present_has (mark_at w k) xs p m in
        mark_holds w f k n shows q.0 (named q.0 q.1) (fit.fits q.0 q.1) p q.2

    pub alike_holds : (a b : ℕ) → AlikeAt w xs (a, b) k → f.holds a n ≡ f.holds b n
    alike_holds a b (inl chain) = chain_holds a b chain
    alike_holds a b (inr r) =
        let e = (fit.readings r.p.1 r.q.1 (marks_named k r.p r.marked_p) (marks_named k r.q r.marked_q)).1 r.alike in
        chain_holds a r.p.0 r.chain_a ∙ marks_hold r.p r.marked_p ∙ e
        ∙ sym (marks_hold r.q r.marked_q) ∙ sym (chain_holds b r.q.0 r.chain_b)

    clash_never : ClashAt w xs k → ⊥
    clash_never r =
        let e = sym (marks_hold r.p r.marked_p) ∙ chain_holds r.p.0 r.q.0 r.chain ∙ marks_hold r.q r.marked_q in
        both_ways (same w.readings r.p.1 r.q.1) r.unlike
        ((fit.readings r.p.1 r.q.1 (marks_named k r.p r.marked_p) (marks_named k r.q r.marked_q)).0 e)

-- a number that is above those of the first names
abbrev beyond : (ℕ → ℕ) → ℕ → ℕ
beyond g zero = 0
beyond g (suc s) = suc (g s) + beyond g s

beyond_all : (g : ℕ → ℕ) (s i : ℕ) → i < s → g i < beyond g s
beyond_all g zero i l = absurd (omega arith)
beyond_all g (suc s) i l =
    elim (cases_lt i s) [
      | inl k ↦ omega (arith, beyond_all g s i k)
      | inr k ↦ let e : i ≡ s = omega arith in subst (λ j. g j < beyond g (suc s)) (sym e) (omega arith)
    ]

-- a number is that of a name, or of none
find_name : (g : ℕ → ℕ) (n s : ℕ) → ((i : ℕ) × (i < s) × (g i ≡ n)) ⊎ ((i : ℕ) → i < s → g i ≡ n → ⊥)
find_name g n zero = inr (λ i l e. omega arith)
find_name g n (suc s) =
    elim (find_name g n s) [
      | inl r ↦ inl (r.0, omega arith, r.2)
      | inr never ↦
          elim (cases_eq (g s) n) [
            | inl e ↦ inl (s, omega arith, e)
            | inr ne ↦ inr (λ i l e.
                elim (cases_lt i s) [
                  | inl k ↦ never i k e
                  | inr k ↦ let q : i ≡ s = omega arith in ne (subst (λ j. g j ≡ n) q e)
                ])
          ]
    ]

module _ (w : Setting) (law : Lawful w.slots) (xs : List Statement) (f : Filling) (fit : FitsAll w xs f) where
  abbrev S : Meaning
  S = w.slots

  pub shows_at : (c n : ℕ) → c < S.size → f.slot c ≡ n → Shows w f (at c) n
  shows_at c n l e i k =
      let s = fit.slots c i l k in
      (λ h. sym (s.1 h) ∙ e, λ h. s.0 (e ∙ sym h))

  shows_elsewhere : (n : ℕ) → ((i : ℕ) → i < S.size → f.slot i ≡ n → ⊥) → Shows w f Elsewhere n
  shows_elsewhere n never i k = (λ h. absurd (false≢true h), λ h. absurd (never i k h))

  -- each slot number is one of some column
  pub some_column : (n : ℕ) → (k : Column) × Member k (columns w) × Shows w f k n
  some_column n =
      elim (find_name f.slot n S.size) [
        | inl r ↦
            let i = r.0 in
            let c = lowest S i in
            let l : c < S.size = omega (arith, lowest-le S law i, r.1) in
            let e = (fit.slots c i l r.1).1 (lowest_in S law i r.1) in
            (at c, has_at w c l (lowest_twice S law i r.1), shows_at c n l (e ∙ r.2))
        | inr never ↦ (Elsewhere, has_elsewhere w, shows_elsewhere n never)
      ]

  -- each column has a slot number: slot numbers run without end
  some_number : (k : Column) → Member k (columns w) → (n : ℕ) × Shows w f k n
  some_number k mem =
      elim (column_cases w k mem) [
        | inl e ↦
            let n = beyond f.slot S.size in
            (n, subst (λ k. Shows w f k n) e (shows_elsewhere n (λ i l e. omega (arith, beyond_all f.slot S.size i l))))
        | inr r ↦ (f.slot r.0, subst (λ k. Shows w f k (f.slot r.0)) r.3 (shows_at r.0 (f.slot r.0) r.1 refl))
      ]

  module _ (named : Named w xs) where
    pub no_clash : SomeClash w xs → ⊥
    no_clash c = let r = some_number c.column c.among in clash_never w xs named f fit c.column r.0 r.1 c.clash

    pub not_throughout : AlikeThroughout w xs → ⊥
    unfolding differences
    not_throughout d =
        let q = present_has difference xs d.tables d.differ in
        difference_holds f q.0 (fit.fits q.0 q.1) d.tables q.2
        (λ n.
        let r = some_column n in
        alike_holds w xs named f fit r.0 n r.2 d.tables.0 d.tables.1 (d.alike r.0 r.1))
