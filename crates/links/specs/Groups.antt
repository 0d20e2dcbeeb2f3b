-- Groups of names that are joined: a table that has, for each name below 128, the lowest name that it is joined to.
use Rattle.std.specs.Prelude.{◌≡◌, ℕ, ◌<◌, min, max, cond, ◌&&◌, List, map, ◌==◌, nat_lt, slice_index, slice_index_or}
use Rattle.links.specs.Chains.{lowest_joined}

-- the root of a name, and of a name past the table the name itself
abbrev pub root_of : List ℕ → ℕ → ℕ
root_of root name = slice_index_or root name name

-- `new` for each `old`
abbrev pub label_for : ℕ → ℕ → ℕ → ℕ
label_for old new label = cond (label == old) new label

abbrev pub relabelled : ℕ → ℕ → List ℕ → List ℕ
relabelled old new labels = map (label_for old new) labels

-- the two names' groups made one, under the lower of their roots
abbrev pub merged : List ℕ → ℕ → ℕ → List ℕ
merged root x y = relabelled (max (root_of root x) (root_of root y)) (min (root_of root x) (root_of root y)) root

-- what is left of the table when two names are to be joined: names past it are not
abbrev pub joined_roots : List ℕ → ℕ → ℕ → List ℕ
joined_roots root x y = cond (nat_lt x 128 && nat_lt y 128) (merged root x y) root

-- the table is that of the links: it has for each name the lowest name that a chain joins it to
pub record Roots (links : List (ℕ × ℕ)) (root : List ℕ) : Type 0 where
  pub low : (t : ℕ) → t < 128 → slice_index root t ≡ lowest_joined links t
