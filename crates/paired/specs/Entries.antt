-- The pairings as a search reads them.
use Rattle.std.specs.Prelude.{◌≡◌, ℕ, zero, suc, ◌<◌, List, [], ◌∷◌, map, Some, None, slice_get, slice_index_or, refl}
use Rattle.std.proofs.Common.{ap}
use Rattle.std.proofs.ByRecursion.{All-from_get_or, All-map}
use Rattle.std.specs.List.{AllByRecursion}
use Rattle.bounded.specs.Items.{items_of}
use Rattle.links.specs.Lists.{present}
use Rattle.search.specs.Entries.{Inside}
use Rattle.paired.specs.declared.store.Paired.{Paired}
use Rattle.paired.specs.Held.{entries_of}

pub entry_at : (links : List (ℕ × ℕ)) (k : ℕ) → slice_get links k ≡ slice_index_or (map Some links) k None
entry_at [] k = refl
entry_at (l ∷ links) zero = refl
entry_at (l ∷ links) (suc k) = entry_at links k

pub entries_inside : (x : Paired) → AllByRecursion (Inside x.names) (entries_of x)
entries_inside x =
    All-map (Inside x.names) (λ p. Some p) (items_of x.pairs)
    (All-from_get_or (λ p. (p.0 < x.names) × (p.1 < x.names)) (items_of x.pairs) (0, 0) (λ k within. (x.first k within, x.second k within)))

-- every entry is a link
pub all_present : (links : List (ℕ × ℕ)) → present (map (λ p. Some p) links) ≡ links
all_present [] = refl
all_present (l ∷ links) = ap (λ ls. l ∷ ls) (all_present links)
