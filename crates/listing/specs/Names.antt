-- What the openings and pairings of a log amount to, for slots and for readings.
use Rattle.std.specs.Prelude.{ℕ, [], Some, None, Option}
use Rattle.arrangement.specs.declared.refusal.Refusal.{Refusal}
use Rattle.paired.specs.Pairings.{Pairings, count_questions, left, none, pair_questions, with_pair}
use Rattle.paired.specs.Held.{pairings_of}
use Rattle.record.specs.declared.entry.Record.{Record}
use Rattle.record.specs.declared.entry.Record.TheVariants.{Open, PairSlots, PairReadings, State}
use Rattle.listing.specs.declared.names.Names.{Names}

-- the pairings of slots and those of readings
pub record Sorts : Type 0 where
  pub slots : Pairings
  pub readings : Pairings

-- before the first record
abbrev pub nothing : Sorts
nothing = record { slots = none; readings = none }

abbrev pub sorts_of : Names → Sorts
sorts_of x = record { slots = pairings_of x.slots; readings = pairings_of x.readings }

-- the first of two refusals
abbrev pub or_else : Option Refusal → Option Refusal → Option Refusal
or_else (Some refusal) later = Some refusal
or_else None later = later

-- the counts of an opening; there are no pairings yet
abbrev pub opened : ℕ → ℕ → Sorts
opened s r = record { slots = record { count = s; links = [] }; readings = record { count = r; links = [] } }

-- why a record is refused, if it is: an opening is asked for its slots first
abbrev pub refusal_of : Sorts → Record → Option Refusal
refusal_of x (Open t s r) = or_else (count_questions s) (count_questions r)
refusal_of x (PairSlots i j) = pair_questions x.slots i.0 j.0
refusal_of x (PairReadings v w) = pair_questions x.readings v.0 w.0
refusal_of x (State statement) = None

-- what a record leaves
abbrev pub sorts_after : Sorts → Record → Sorts
sorts_after x (Open t s r) = left (or_else (count_questions s) (count_questions r)) (opened s r) x
sorts_after x (PairSlots i j) = record { slots = with_pair x.slots i.0 j.0; readings = x.readings }
sorts_after x (PairReadings v w) = record { slots = x.slots; readings = with_pair x.readings v.0 w.0 }
sorts_after x (State statement) = x
