-- Slot classes as bits: of those that pass a test a bit for the lowest name of each.
use Rattle.std.proofs.Common.{◌≡◌, ℕ, zero, suc, ◌+◌, ◌*◌, ◌%◌, ◌^◌, ◌<◌, Bool, true, false, cond, ◌&&◌, eqb, List, [], ◌∷◌, length, filter, sym, refl, ap, ◌∙◌, one-mul, pow-suc, add-one, arith}
use lib.Bits.{bit_or, or_shifted_r}
use lib.Count.{ones, ones_in, ones_cat}
use Rattle.std.proofs.lemmas.Nat.{one_shl}
use Rattle.std.proofs.lemmas.Bool.{cond-false, cond-true}
use Rattle.arrangement.specs.Meaning.{Meaning, lowest}
use Rattle.meaning.specs.declared.column.Column.{Column}
use Rattle.meaning.specs.declared.column.Column.TheVariants.{Elsewhere}
use Rattle.meaning.specs.Answers.{bits_of}
use Rattle.meaning.specs.Columns.{at, columns_below}

double : (n : ℕ) → 2 ^ suc n ≡ 2 ^ n + 2 ^ n
double n = omega (arith, pow-suc 2 n)

-- a bit above all others
module _ (c set : ℕ) (h : set < 2 ^ c) where
  pub with_bit : c < 64 → bit_or set ((1 * 2 ^ c) % 2 ^ 64) ≡ 2 ^ c + set
  with_bit l = ap (bit_or set) (one_shl c 64 l ∙ sym (one-mul (2 ^ c))) ∙ or_shifted_r 1 c set h ∙ ap (λ (n : ℕ). n + set) (one-mul (2 ^ c))

  pub more_below : 2 ^ c + set < 2 ^ (c + 1)
  more_below = rw add-one (omega (arith, double c))

  pub kept_below : set < 2 ^ (c + 1)
  kept_below = omega (arith, more_below)

module _ (m : Meaning) (p : Column → Bool) where
  abbrev passing : ℕ → List Column
  passing c = filter p (columns_below m c)

  -- does the class whose lowest name is c pass, if c is one?
  abbrev passes : ℕ → Bool
  passes c = eqb (lowest m c) c && p (at c)

  passing_step : (c : ℕ) → passing (suc c) ≡ cond (passes c) (at c ∷ passing c) (passing c)
  passing_step c = go (eqb (lowest m c) c)
    where
      go : (b : Bool) → filter p (cond b (at c ∷ columns_below m c) (columns_below m c)) ≡ cond (b && p (at c)) (at c ∷ passing c) (passing c)
      go true = refl
      go false = refl

  passing_yes : (c : ℕ) → passes c ≡ true → passing (suc c) ≡ at c ∷ passing c
  passing_yes c h = passing_step c ∙ cond-true (passes c) (at c ∷ passing c) (passing c) h

  passing_no : (c : ℕ) → passes c ≡ false → passing (suc c) ≡ passing c
  passing_no c h = passing_step c ∙ cond-false (passes c) (at c ∷ passing c) (passing c) h

  pub set_more : (c set : ℕ) → passes c ≡ true → set ≡ bits_of (passing c) → 2 ^ c + set ≡ bits_of (passing (c + 1))
  set_more c set h e =
      ap (λ (n : ℕ). 2 ^ c + n) e ∙ sym (ap bits_of (passing_yes c h)) ∙ sym (ap (λ (n : ℕ). bits_of (passing n)) (add-one c))

  pub set_kept : (c set : ℕ) → passes c ≡ false → set ≡ bits_of (passing c) → set ≡ bits_of (passing (c + 1))
  set_kept c set h e = e ∙ sym (ap bits_of (passing_no c h)) ∙ sym (ap (λ (n : ℕ). bits_of (passing n)) (add-one c))

  -- the bits are distinct, so that there are as many as classes
  module _ (named : p Elsewhere ≡ false) where
    pub record Counted (c : ℕ) : Type 0 where
      pub below : bits_of (passing c) < 2 ^ c
      pub many : ones (bits_of (passing c)) ≡ length (passing c)

    none_yet : passing 0 ≡ []
    none_yet = cond-false (p Elsewhere) (Elsewhere ∷ []) [] named

    no_bit : ones 0 ≡ 0
    unfolding ones ones_in
    no_bit = refl

    one_bit : ones 1 ≡ 1
    unfolding ones ones_in
    one_bit = refl

    pub counted : (c : ℕ) → Counted c
    counted zero =
        let none = ap bits_of none_yet in
        record { below = omega (arith, none); many = ap ones none ∙ no_bit ∙ sym (ap length none_yet) }
    counted (suc c) = go (counted c) (passes c) refl
      where
        go : Counted c → (b : Bool) → passes c ≡ b → Counted (suc c)
        go ih true h =
            let set = ap bits_of (passing_yes c h) in
            record {
              below = omega (arith, set, ih.below, double c);
              many = ap ones (set ∙ ap (λ (n : ℕ). n + bits_of (passing c)) (sym (one-mul (2 ^ c)))) ∙ ones_cat c 1 (bits_of (passing c)) ih.below
                  ∙ omega (arith, one_bit, ih.many, ap length (passing_yes c h));
            }
        go ih false h =
            let set = ap bits_of (passing_no c h) in
            record { below = omega (arith, set, ih.below, double c); many = ap ones set ∙ ih.many ∙ sym (ap length (passing_no c h)) }
