-- Names that wait in the order of their distances.
use Rattle.std.proofs.Common.{◌≡◌, ℕ, ◌≤◌, List, [], ◌∷◌, ◌++◌, Some, Option, inl, inr, arith}
use Rattle.links.specs.Lists.{Member}
use Rattle.search.specs.Tables.{at}
use Rattle.search.proofs.Tables.{More}

-- the distances of the names rise from low to at most high
abbrev pub Rising : List (Option ℕ) → ℕ → ℕ → List ℕ → Type 0
Rising D low high [] = low ≤ high
Rising D low high (y ∷ ys) = (d : ℕ) × (at D y ≡ Some d) × (low ≤ d) × Rising D d high ys

rising_ends : (D : List (Option ℕ)) (low high : ℕ) (ys : List ℕ) → Rising D low high ys → low ≤ high
rising_ends D low high [] r = r
rising_ends D low high (y ∷ ys) r = omega (arith, r.2, rising_ends D r.0 high ys r.3)

pub rising_member : (D : List (Option ℕ)) (low high : ℕ) (ys : List ℕ) (y d : ℕ) → Rising D low high ys → Member y ys → at D y ≡ Some d
    → (low ≤ d) × (d ≤ high)
rising_member D low high [] y d r m is = absurd m
rising_member D low high (z ∷ zs) y d r (inl e) is = grind (arith, rising_ends D r.0 high zs r.3)
rising_member D low high (z ∷ zs) y d r (inr m) is = grind (arith, rising_member D r.0 high zs y d r.3 m is)

pub rising_wider : (D : List (Option ℕ)) (low high top : ℕ) (ys : List ℕ) → high ≤ top → Rising D low high ys → Rising D low top ys
rising_wider D low high top [] wider r = omega arith
rising_wider D low high top (y ∷ ys) wider (d, is, le, r) = (d, is, le, rising_wider D d high top ys wider r)

-- one more at the end, as far as any
pub rising_push : (D : List (Option ℕ)) (low high : ℕ) (ys : List ℕ) (y : ℕ) → at D y ≡ Some high → Rising D low high ys → Rising D low high (ys ++ (y ∷ []))
rising_push D low high [] y e r = (high, e, r, omega arith)
rising_push D low high (z ∷ zs) y e (d, is, le, r) = (d, is, le, rising_push D d high zs y e r)

-- a table that has more changes nothing for the names that wait
pub rising_more : (D N : List (Option ℕ)) (low high : ℕ) (ys : List ℕ) → More D N → Rising D low high ys → Rising N low high ys
rising_more D N low high [] more r = r
rising_more D N low high (y ∷ ys) more (d, is, le, r) = (d, more y d is, le, rising_more D N d high ys more r)
