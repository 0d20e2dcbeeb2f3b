-- What is said of names that no statement has makes no difference: a filling is carried to arrangements that relate the
-- names in the statements alike.
use Rattle.std.proofs.Common.{◌≡◌, ℕ, suc, ◌+◌, ◌<◌, true, ◌⊎◌, ◌↔◌, List, [], ◌∷◌, map, Some, None, Option, sym, refl, ap, ◌∙◌, subst, subst₂, inl, inr, arith}
use Rattle.links.specs.Lists.{Member, present}
use Rattle.arrangement.specs.Meaning.{Alike, Lawful, Meaning, lowest, same}
use Rattle.arrangement.specs.Lowest.{lowest_back, lowest_same}
use Rattle.statement.specs.declared.Statement.{Statement}
use Rattle.statement.specs.declared.Statement.TheVariants.{W, R, E, D}
use Rattle.meaning.specs.Answers.{first_that}
use Rattle.meaning.specs.Fillings.{Fillable, Filling, Fits, Numbered, Setting, reading_of, slot_of}
use Rattle.meaning.specs.Theorems.{Likewise}
use Rattle.meaning.proofs.Lists.{Found, first_found, present_from}

-- a number above those of the names
abbrev above : (ℕ → ℕ) → List ℕ → ℕ
above g [] = 0
above g (n ∷ ns) = suc (g n) + above g ns

above_all : (g : ℕ → ℕ) (ns : List ℕ) (n : ℕ) → Member n ns → g n < above g ns
above_all g [] n m = elim m [ ]
above_all g (k ∷ ks) n (inl e) = subst (λ j. g j < above g (k ∷ ks)) e (omega arith)
above_all g (k ∷ ks) n (inr m) = omega (arith, above_all g ks n m)

-- the number of the first name at hand that is the same; another class gets a number of its own
abbrev number_for : (ℕ → ℕ) → ℕ → Option ℕ → ℕ
number_for g other None = other
number_for g other (Some j) = g j

-- the names at hand keep their numbers
renumber : Meaning → (ℕ → ℕ) → List ℕ → ℕ → ℕ
renumber m g ns i = number_for g (above g ns + lowest m i) (first_that (λ j. same m j i) ns)

module _ (old new : Meaning) (law : Lawful new) (g : ℕ → ℕ) (numbered : Numbered old g) (ns : List ℕ) (alike : Alike old new ns) where
  -- i is the same as a name at hand, or as none
  record Kept (i : ℕ) : Type 0 where
    pub name : ℕ
    pub among : Member name ns
    pub one : same new name i ≡ true
    pub is : renumber new g ns i ≡ g name

  record Fresh (i : ℕ) : Type 0 where
    pub never : (j : ℕ) → Member j ns → same new j i ≡ true → ⊥
    pub is : renumber new g ns i ≡ above g ns + lowest new i

  cases : (i : ℕ) → Kept i ⊎ Fresh i
  unfolding renumber
  cases i = go (first_that (λ j. same new j i) ns) refl (first_found (λ j. same new j i) ns)
    where
      go : (o : Option ℕ) → first_that (λ j. same new j i) ns ≡ o → Found (λ j. same new j i) ns o → Kept i ⊎ Fresh i
      go None e f = inr (record { never = f; is = ap (number_for g (above g ns + lowest new i)) e })
      go (Some j) e f = inl (record { name = j; among = f.0; one = f.1; is = ap (number_for g (above g ns + lowest new i)) e })

  -- names at hand have equal numbers exactly where they are the same
  at_hand : (i j : ℕ) → Member i ns → Member j ns → (g i ≡ g j) ↔ (same new i j ≡ true)
  at_hand i j p q =
      subst (λ b. (g i ≡ g j) ↔ (b ≡ true)) (alike.agree i j p q) (numbered i j (alike.low i p).0 (alike.low j q).0)

  renumber_kept : (i : ℕ) → Member i ns → renumber new g ns i ≡ g i
  renumber_kept i m =
      elim (cases i) [
        | inl r ↦ r.is ∙ (at_hand r.name i r.among m).1 r.one
        | inr r ↦ absurd (r.never i m (law.itself i (alike.low i m).1))
      ]

  numbers_same : (i j : ℕ) → same new i j ≡ true → Kept i ⊎ Fresh i → Kept j ⊎ Fresh j → renumber new g ns i ≡ renumber new g ns j
  numbers_same i j h (inl p) (inl q) =
      let one = law.through p.name i q.name p.one (law.through i j q.name h (law.back q.name j q.one)) in
      p.is ∙ (at_hand p.name q.name p.among q.among).1 one ∙ sym q.is
  numbers_same i j h (inl p) (inr q) = absurd (q.never p.name p.among (law.through p.name i j p.one h))
  numbers_same i j h (inr p) (inl q) = absurd (p.never q.name q.among (law.through q.name j i q.one (law.back i j h)))
  numbers_same i j h (inr p) (inr q) = p.is ∙ ap (λ n. above g ns + n) (lowest_same new law i j h) ∙ sym q.is

  numbers_back : (i j : ℕ) → i < new.size → j < new.size → renumber new g ns i ≡ renumber new g ns j
      → Kept i ⊎ Fresh i → Kept j ⊎ Fresh j → same new i j ≡ true
  numbers_back i j l k h (inl p) (inl q) =
      let one = (at_hand p.name q.name p.among q.among).0 (sym p.is ∙ h ∙ q.is) in
      law.through i p.name j (law.back p.name i p.one) (law.through p.name q.name j one q.one)
  numbers_back i j l k h (inl p) (inr q) = absurd (omega (arith, above_all g ns p.name p.among, p.is, q.is, h))
  numbers_back i j l k h (inr p) (inl q) = absurd (omega (arith, above_all g ns q.name q.among, p.is, q.is, h))
  numbers_back i j l k h (inr p) (inr q) =
      let e : lowest new i ≡ lowest new j = omega (arith, p.is, q.is, h) in lowest_back new law i j l k e

  renumber_numbered : Numbered new (renumber new g ns)
  renumber_numbered i j l k = ((λ h. numbers_back i j l k h (cases i) (cases j)), (λ h. numbers_same i j h (cases i) (cases j)))

-- the same tables under other numbers
abbrev moved : Filling → (ℕ → ℕ) → (ℕ → ℕ) → Filling
moved f s r = record { slot = s; reading = r; holds = f.holds }

moved_fits : (f : Filling) (s r : ℕ → ℕ) (x : Statement)
    → ((i : ℕ) → slot_of x ≡ Some i → s i ≡ f.slot i) → ((v : ℕ) → reading_of x ≡ Some v → r v ≡ f.reading v)
    → Fits f x → Fits (moved f s r) x
moved_fits f s r (W b a i v) p q h =
    let e = p i.0 refl in
    let d = q v.0 refl in
    (subst₂ (λ m n. f.holds b.0 m ≡ n) (sym e) (sym d) h.0, λ k ne. h.1 k (λ c. ne (c ∙ sym e)))
moved_fits f s r (R a i v) p q h =
    subst₂ (λ m n. f.holds a.0 m ≡ n) (sym (p i.0 refl)) (sym (q v.0 refl)) h
moved_fits f s r (E a b) p q h = h
moved_fits f s r (D a b) p q h = h

alike_back : (m m' : Meaning) (ns : List ℕ) → Alike m m' ns → Alike m' m ns
alike_back m m' ns a = record { low = λ i k. ((a.low i k).1, (a.low i k).0); agree = λ i j p q. sym (a.agree i j p q) }

-- a filling under arrangements that relate the names alike gives one under the first
pub carried : (w w' : Setting) (xs : List Statement) → Lawful w.slots → Lawful w.readings → Likewise w w' xs → Fillable w' xs → Fillable w xs
carried w w' xs law_slots law_readings alike fillable =
    let f = fillable.0 in
    let fit = fillable.1 in
    let is = present (map slot_of xs) in
    let vs = present (map reading_of xs) in
    let on_slots = alike_back w.slots w'.slots is alike.slots in
    let on_readings = alike_back w.readings w'.readings vs alike.readings in
    let s = renumber w.slots f.slot is in
    let r = renumber w.readings f.reading vs in (
      moved f s r,
      record {
        slots = renumber_numbered w'.slots w.slots law_slots f.slot fit.slots is on_slots;
        readings = renumber_numbered w'.readings w.readings law_readings f.reading fit.readings vs on_readings;
        fits = λ x m. moved_fits f s r x
            (λ i k. renumber_kept w'.slots w.slots law_slots f.slot fit.slots is on_slots i (present_from slot_of xs x i m k))
            (λ v k. renumber_kept w'.readings w.readings law_readings f.reading fit.readings vs on_readings v (present_from reading_of xs x v m k))
            (fit.fits x m);
      },
    )
