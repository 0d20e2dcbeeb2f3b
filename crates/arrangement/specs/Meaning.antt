-- What an arrangement means: which names name the same thing.
use Rattle.std.specs.Prelude.{◌≡◌, ℕ, ◌<◌, ◌≤◌, Bool, true, ◌&&◌, List, nat_lt}
use Rattle.links.specs.Lists.{Member, least}

-- how many names there are, and which of them are related; what is related beyond the names does not count
pub record Meaning : Type 0 where
  pub size : ℕ
  pub related : ℕ → ℕ → Bool

-- are both of them names, and names of the same thing?
unfoldable pub same : Meaning → ℕ → ℕ → Bool
same m i j = (nat_lt i m.size && nat_lt j m.size) && m.related i j

-- the laws: few names, each the same as itself, both ways round, and through a third
pub record Lawful (m : Meaning) : Type 0 where
  pub small : m.size ≤ 64
  pub itself : (i : ℕ) → i < m.size → same m i i ≡ true
  pub back : (i j : ℕ) → same m i j ≡ true → same m j i ≡ true
  pub through : (i j k : ℕ) → same m i j ≡ true → same m j k ≡ true → same m i k ≡ true

-- the lowest name that is the same as i
unfoldable pub lowest : Meaning → ℕ → ℕ
lowest m i = least (λ j. same m j i) i

-- both have these names, and say the same of every two of them
pub record Alike (m m' : Meaning) (names : List ℕ) : Type 0 where
  pub low : (i : ℕ) → Member i names → (i < m.size) × (i < m'.size)
  pub agree : (i j : ℕ) → Member i names → Member j names → same m i j ≡ same m' i j
