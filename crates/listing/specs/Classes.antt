-- The classes of two names and more, and how they are printed.
use Rattle.std.specs.Prelude.{ℕ, ◌+◌, Bool, false, cond, not, ◌&&◌, List, Some, None, Option, [], ◌++◌, map, take, drop, codes, decimal, slice_index_or}
use Rattle.std.specs.List.{range_with_len, flat_map, list_any}
use Rattle.arrangement.specs.Meaning.{Meaning, same}
use Rattle.listing.specs.declared.class.Class.{Class}
use Rattle.listing.specs.declared.class.Sort.{Sort}
use Rattle.listing.specs.declared.class.Sort.TheVariants.{Slots, Readings}

-- for each of the names 0 to 63, whether it is the same as s
unfoldable pub members_of : Meaning → ℕ → List Bool
members_of m s = map (same m s) (range_with_len 0 64)

abbrev pub any_true : List Bool → Bool
any_true = list_any (λ b. b)

-- is s the lowest of these members, and not the only one?
abbrev pub leads : List Bool → ℕ → Bool
leads members s = not (any_true (take s members)) && any_true (drop (s + 1) members)

-- the class whose lowest name is s, if it has two names and more
abbrev pub class_of : Sort → Meaning → ℕ → Option Class
class_of sort m s = cond (leads (members_of m s) s) (Some (record { sort = sort; members = members_of m s })) None

abbrev pub shown_sort : Sort → List ℕ
shown_sort Slots = codes "slots"
shown_sort Readings = codes "readings"

-- a space and the name, for a member
abbrev pub shown_member : Bool → ℕ → List ℕ
shown_member belongs name = cond belongs (codes " " ++ decimal name) []

-- what is printed of name k
abbrev pub shown_name : List Bool → ℕ → List ℕ
shown_name members k = shown_member (slice_index_or members k false) k

unfoldable pub shown_members : List Bool → List ℕ
shown_members members = flat_map (shown_name members) (range_with_len 0 64)

abbrev pub shown_class : Class → List ℕ
shown_class c = shown_sort c.sort ++ shown_members c.members
