use Rattle.std.proofs.Common.{◌≡◌, ◌-◌, length}
use Rattle.listing.proofs.under_way.Listing.list_records.Given as goal

-- it is the same log
abbrev pub invariant-loop : goal.invariant-loop
invariant-loop l = l.self.reader.log.now ≡ l.initial.self.reader.log.now

-- each record takes bytes
abbrev pub decreases-loop : goal.decreases-loop
decreases-loop l = length l.initial.self.reader.log.now - l.self.reader.offset
