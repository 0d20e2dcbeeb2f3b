use Rattle.std.proofs.Common.{◌≡◌, ◌+◌, ◌≤◌, ◌++◌, vec_items, vec_len, vec_capacity}
use Rattle.std.specs.List.{range_with_len, flat_map}
use Rattle.paired.specs.Held.{pairings_of}
use Rattle.paired.specs.Pairings.{meaning_of}
use Rattle.listing.specs.Lines.{class_line}
use Rattle.listing.proofs.classing.list_classes.Given as goal

-- the classes of the names so far are listed, at most one for each
abbrev pub invariant-loop-name : goal.invariant-loop-name
invariant-loop-name l =
    (vec_items l.lines ≡ vec_items l.initial.lines ++ flat_map (class_line l.sort (meaning_of (pairings_of l.names))) (range_with_len 0 l.name))
    × (vec_len l.lines ≤ vec_len l.initial.lines + l.name)
    × (vec_capacity l.lines ≡ vec_capacity l.initial.lines)
