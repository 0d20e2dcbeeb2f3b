use Rattle.std.specs.List.{range_with_len, flat_map}
use Rattle.std.specs.Fmt.{IsPlainFormatter, HasWritten}
use Rattle.listing.specs.Classes.{shown_name}
use Rattle.listing.proofs.class.ClassDisplay.fmt.Given as goal

-- the names so far are written
abbrev pub invariant-loop-name : goal.invariant-loop-name
invariant-loop-name g l = IsPlainFormatter l.initial.f → HasWritten g.W.Write.write_str_gives l.initial.f (flat_map (shown_name l.self.members) (range_with_len 0 l.name)) l.f
