-- What `same` says, and what makes an arrangement lawful.
use Rattle.std.specs.Prelude.{◌≡◌, ℕ, ◌<◌, ◌≤◌, Bool, true, false, ◌&&◌, ◌==◌, nat_lt, refl}
use Rattle.std.proofs.Math.Path.{sym}
use Rattle.std.proofs.Common.{ap, ◌∙◌}
use Rattle.std.proofs.lemmas.Bool.{and_from, and_left, and_parts, and_right, eq-eqb, eqb-true, le-ltb, lt-ltb, ltb-true}
use Rattle.arrangement.specs.Meaning.{Meaning, Lawful, same}

module _ (m : Meaning) (i j : ℕ) where
  pub same_low : same m i j ≡ true → (i < m.size) × (j < m.size)
  unfolding same
  same_low h =
      let names = (and_parts (nat_lt i m.size && nat_lt j m.size) (m.related i j) h).0 in
      let each = and_parts (nat_lt i m.size) (nat_lt j m.size) names in
      (ltb-true i m.size each.0, ltb-true j m.size each.1)

  pub same_related : same m i j ≡ true → m.related i j ≡ true
  unfolding same
  same_related h = (and_parts (nat_lt i m.size && nat_lt j m.size) (m.related i j) h).1

  -- of two names `related` says all
  pub same_within : i < m.size → j < m.size → m.related i j ≡ same m i j
  unfolding same
  same_within l k = sym (ap (λ b. b && m.related i j) (and_from (nat_lt i m.size) (nat_lt j m.size) (lt-ltb i m.size l) (lt-ltb j m.size k)))

  pub same_from : i < m.size → j < m.size → m.related i j ≡ true → same m i j ≡ true
  same_from l k h = sym (same_within l k) ∙ h

  -- what is no name is the same as nothing
  pub left_beyond : m.size ≤ i → false ≡ same m i j
  unfolding same
  left_beyond l = sym (and_left _ (m.related i j) (and_left (nat_lt i m.size) (nat_lt j m.size) (le-ltb i m.size l)))

  pub right_beyond : m.size ≤ j → false ≡ same m i j
  unfolding same
  right_beyond l = sym (and_left _ (m.related i j) (and_right (nat_lt i m.size) (nat_lt j m.size) (le-ltb j m.size l)))

-- answers that are yes in the same cases are equal
pub same_answer : (x y : Bool) → (x ≡ true → y ≡ true) → (y ≡ true → x ≡ true) → x ≡ y
same_answer true y f g = sym (f refl)
same_answer false true f g = g refl
same_answer false false f g = refl

-- the laws, from those of `related`
pub lawful_from : (m : Meaning) → m.size ≤ 64
    → ((i : ℕ) → i < m.size → m.related i i ≡ true)
    → ((i j : ℕ) → m.related i j ≡ true → m.related j i ≡ true)
    → ((i j k : ℕ) → m.related i j ≡ true → m.related j k ≡ true → m.related i k ≡ true)
    → Lawful m
lawful_from m small itself back through = record {
  small = small;
  itself = λ i l. same_from m i i l l (itself i l);
  back = λ i j h.
      let names = same_low m i j h in
      same_from m j i names.1 names.0 (back i j (same_related m i j h));
  through = λ i j k h g.
      same_from m i k (same_low m i j h).0 (same_low m j k g).1 (through i j k (same_related m i j h) (same_related m j k g));
}

-- the laws of each of many, put together
pub lawful_each : {X : Type 0} (meaning : X → Meaning)
    → ((x : X) → (meaning x).size ≤ 64)
    → ((x : X) (i : ℕ) → i < (meaning x).size → same (meaning x) i i ≡ true)
    → ((x : X) (i j : ℕ) → same (meaning x) i j ≡ true → same (meaning x) j i ≡ true)
    → ((x : X) (i j k : ℕ) → same (meaning x) i j ≡ true → same (meaning x) j k ≡ true → same (meaning x) i k ≡ true)
    → (x : X) → Lawful (meaning x)
lawful_each meaning small itself back through x = record { small = small x; itself = itself x; back = back x; through = through x }

-- names are the same where a number of theirs is
abbrev pub by : ℕ → (ℕ → ℕ) → Meaning
by size f = record { size = size; related = λ i j. (f i == f j) }

pub lawful_by : (size : ℕ) (f : ℕ → ℕ) → size ≤ 64 → Lawful (by size f)
lawful_by size f small =
    lawful_from (by size f) small
    (λ i l. eq-eqb (f i) (f i) refl)
    (λ i j h. eq-eqb (f j) (f i) (sym (eqb-true (f i) (f j) h)))
    (λ i j k h g. eq-eqb (f i) (f k) (eqb-true (f i) (f j) h ∙ eqb-true (f j) (f k) g))
