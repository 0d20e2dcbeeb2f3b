-- A table of distances in which one more name is reached.
use Rattle.std.proofs.Common.{◌≡◌, ℕ, zero, suc, ◌+◌, ◌<◌, ◌≤◌, true, false, ◌⊎◌, List, [], ◌∷◌, length, set, Some, None, Option, is_some, refl, inl, inr, arith}
use Rattle.std.proofs.lemmas.Grind.{common_steps}
use Rattle.std.proofs.lemmas.List.{get_or_past, get_or-replicate}
use Rattle.std.proofs.lemmas.Bool.{cases_lt}
use Rattle.search.specs.Tables.{at, blank, unknowns}

-- N has what D has, and maybe more
abbrev pub More : List (Option ℕ) → List (Option ℕ) → Type 0
More D N = (z d : ℕ) → at D z ≡ Some d → at N z ≡ Some d

-- at most d links reach y
abbrev pub Near : List (Option ℕ) → ℕ → ℕ → Type 0
Near D y d = (n : ℕ) × (at D y ≡ Some n) × (n ≤ d)

pub near_more : (D N : List (Option ℕ)) (y d : ℕ) → More D N → Near D y d → Near N y d
near_more D N y d more (n, is, le) = (n, more y n is, le)

pub reached : (o : Option ℕ) → is_some o ≡ true → (d : ℕ) × (o ≡ Some d)
reached None t = cc
reached (Some d) t = (d, refl)

pub unreached : (o : Option ℕ) → is_some o ≡ false → o ≡ None
unreached None f = refl
unreached (Some d) f = cc

-- y is not reached yet, and can be noted
pub record Fresh (D : List (Option ℕ)) (y : ℕ) : Type 0 where
  pub size : length D ≡ 128
  pub below : y < 128
  pub new : at D y ≡ None

module _ (D : List (Option ℕ)) (y v : ℕ) (fresh : Fresh D y) where
  pub set_same : at (set D y (Some v)) y ≡ Some v
  set_same = grind (arith, common_steps)

  pub set_more : More D (set D y (Some v))
  set_more z d is = grind (arith, common_steps)

  pub set_known : (z d : ℕ) → at (set D y (Some v)) z ≡ Some d → ((z ≡ y) × (d ≡ v)) ⊎ (at D z ≡ Some d)
  set_known z d is = grind (arith, common_steps)

-- one name reached is one less that is not
pub unknowns_set : (D : List (Option ℕ)) (y v : ℕ) → y < length D → at D y ≡ None → unknowns (set D y (Some v)) + 1 ≡ unknowns D
unknowns_set [] y v lt new = absurd (omega arith)
unknowns_set (None ∷ D) zero v lt new = omega arith
unknowns_set (Some d ∷ D) zero v lt new = cc
unknowns_set (None ∷ D) (suc y) v lt new = grind (arith, unknowns_set D y v)
unknowns_set (Some d ∷ D) (suc y) v lt new = grind (arith, unknowns_set D y v)

pub at_blank : (z : ℕ) → at blank z ≡ None
at_blank z =
    elim (cases_lt z 128) [ inl lt ↦ get_or-replicate 128 z None None lt | inr ge ↦ get_or_past blank z None ge ]
