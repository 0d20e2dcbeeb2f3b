-- A record and its seven bytes: the mark, the byte of the kind, four fields.
use Rattle.std.specs.Prelude.{◌≡◌, ℕ, ◌+◌, Bool, cond, ◌&&◌, List, [], ◌∷◌, ◌++◌, length, take, drop, Some, None, Ok, Err, Option, Result, ◌==◌, nat_lt, slice_index}
use Rattle.statement.specs.declared.Statement.TheVariants.{W, R, E, D}
use Rattle.record.specs.declared.entry.Record.{Record}
use Rattle.record.specs.declared.entry.Record.TheVariants.{Open, PairSlots, PairReadings, State}
use Rattle.record.specs.declared.kinds.Kind.{Kind}
use Rattle.record.specs.declared.kinds.Kind.TheVariants.{Opening, SlotPairing, ReadingPairing, Writes, Reads, Equals, Differs}
use Rattle.record.specs.declared.kinds.Row.{Row}
use Rattle.record.specs.declared.reading.ReadRefusal.{ReadRefusal}
use Rattle.record.specs.declared.reading.ReadRefusal.TheVariants.{Incomplete, Unmarked, UnknownKind, UnusedFieldSet}
use Rattle.record.specs.declared.writing.WriteRefusal.{WriteRefusal}
use Rattle.record.specs.declared.writing.WriteRefusal.TheVariants.{BufferTooShort}
use Rattle.record.specs.Kinds.{kinds, masked, row_in, row_of, unused_are_zero}

abbrev pub kind_of : Record → Kind
kind_of (Open tables slots readings) = Opening
kind_of (PairSlots i j) = SlotPairing
kind_of (PairReadings v w) = ReadingPairing
kind_of (State (W b a i v)) = Writes
kind_of (State (R a i v)) = Reads
kind_of (State (E a b)) = Equals
kind_of (State (D a b)) = Differs

abbrev pub fields_of : Record → List ℕ
fields_of (Open tables slots readings) = tables ∷ slots ∷ readings ∷ 0 ∷ []
fields_of (PairSlots i j) = i.0 ∷ j.0 ∷ 0 ∷ 0 ∷ []
fields_of (PairReadings v w) = v.0 ∷ w.0 ∷ 0 ∷ 0 ∷ []
fields_of (State (W b a i v)) = b.0 ∷ a.0 ∷ i.0 ∷ v.0 ∷ []
fields_of (State (R a i v)) = a.0 ∷ i.0 ∷ v.0 ∷ 0 ∷ []
fields_of (State (E a b)) = a.0 ∷ b.0 ∷ 0 ∷ 0 ∷ []
fields_of (State (D a b)) = a.0 ∷ b.0 ∷ 0 ∷ 0 ∷ []

-- the record of a kind that has these fields
abbrev pub record_with : Kind → ℕ → ℕ → ℕ → ℕ → Record
record_with Opening x y z u = Open x y z
record_with SlotPairing x y z u = PairSlots (record { 0 = x }) (record { 0 = y })
record_with ReadingPairing x y z u = PairReadings (record { 0 = x }) (record { 0 = y })
record_with Writes x y z u = State (W (record { 0 = x }) (record { 0 = y }) (record { 0 = z }) (record { 0 = u }))
record_with Reads x y z u = State (R (record { 0 = x }) (record { 0 = y }) (record { 0 = z }))
record_with Equals x y z u = State (E (record { 0 = x }) (record { 0 = y }))
record_with Differs x y z u = State (D (record { 0 = x }) (record { 0 = y }))

abbrev pub record_of : Kind → List ℕ → Record
record_of kind fields = record_with kind (slice_index fields 0) (slice_index fields 1) (slice_index fields 2) (slice_index fields 3)

-- the seven bytes of a record
abbrev pub bytes_of : Record → List ℕ
bytes_of r = 0x4D ∷ 0x54 ∷ (row_of (kind_of r)).byte ∷ masked (row_of (kind_of r)).sorts (fields_of r)

-- the number of a refusal
abbrev pub number_of : ReadRefusal → ℕ
number_of Incomplete = 31
number_of Unmarked = 32
number_of UnknownKind = 33
number_of UnusedFieldSet = 34

-- the record of a row of the table, if there is one, that has these fields
abbrev pub read_fields : Option Row → List ℕ → Result (Option Record) ReadRefusal
read_fields None fields = Err UnknownKind
read_fields (Some row) fields = cond (unused_are_zero row.sorts fields) (Ok (Some (record_of row.kind fields))) (Err UnusedFieldSet)

-- do the bytes begin with the mark?
abbrev pub marked : List ℕ → Bool
marked bytes = slice_index bytes 0 == 0x4D && slice_index bytes 1 == 0x54

abbrev pub fields_in : List ℕ → List ℕ
fields_in bytes = slice_index bytes 3 ∷ slice_index bytes 4 ∷ slice_index bytes 5 ∷ slice_index bytes 6 ∷ []

-- the record with which the bytes begin; none where there are no bytes
abbrev pub read_one : List ℕ → Result (Option Record) ReadRefusal
read_one bytes =
    cond (length bytes == 0) (Ok None)
    (cond (nat_lt (length bytes) 7) (Err Incomplete)
    (cond (marked bytes) (read_fields (row_in kinds (slice_index bytes 2)) (fields_in bytes)) (Err Unmarked)))

-- how far a reader goes on
abbrev pub advance : Result (Option Record) ReadRefusal → ℕ
advance (Ok (Some r)) = 7
advance (Ok None) = 0
advance (Err e) = 0

-- what a reader at this offset of a log answers, and the offset at which it then stands
abbrev pub read_next : List ℕ → ℕ → Result (Option Record) ReadRefusal × ℕ
read_next log offset = (read_one (drop offset log), offset + advance (read_one (drop offset log)))

abbrev pub number_of_write : WriteRefusal → ℕ
number_of_write BufferTooShort = 20

-- what the writer answers, and what the buffer then holds
abbrev pub write_into : Record → List ℕ → Result ℕ WriteRefusal × List ℕ
write_into r buffer = cond (nat_lt (length buffer) 7) (Err BufferTooShort, buffer) (Ok 7, bytes_of r ++ drop 7 buffer)

-- One record for each seven bytes, and seven bytes for each record: what is written is read back, by a reader that then
-- stands after it; and a reader takes a record from the seven bytes that the writer makes of it, and from no others.
pub record OneRecordEach : Type 0 where
  pub back : (before rest : List ℕ) (x : Record) → read_next (before ++ (bytes_of x ++ rest)) (length before) ≡ (Ok (Some x), length before + 7)
  pub only : (log : List ℕ) (offset : ℕ) (x : Record) → read_one (drop offset log) ≡ Ok (Some x) → take 7 (drop offset log) ≡ bytes_of x
