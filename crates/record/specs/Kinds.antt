-- The table of kinds: which fields of a record count.
use Rattle.std.specs.Prelude.{ℕ, Bool, true, false, cond, ◌||◌, List, [], ◌∷◌, map, Option, ◌==◌, slice_index_or}
use Rattle.std.specs.List.{find, list_all, zip}
use Rattle.record.specs.declared.kinds.Kind.{Kind}
use Rattle.record.specs.declared.kinds.Kind.TheVariants.{Opening, SlotPairing, ReadingPairing, Writes, Reads, Equals, Differs}
use Rattle.record.specs.declared.kinds.Row.{Row}
use Rattle.record.specs.declared.kinds.Sort.{Sort}
use Rattle.record.specs.declared.kinds.Sort.TheVariants.{Count, TableName, SlotName, ReadingName, Unused}

abbrev pub opening : Row
opening = record { kind = Opening; byte = 0x4F; sorts = Count ∷ Count ∷ Count ∷ Unused ∷ [] }

abbrev pub kinds : List Row
kinds =
    opening
    ∷ record { kind = SlotPairing; byte = 0x49; sorts = SlotName ∷ SlotName ∷ Unused ∷ Unused ∷ [] }
    ∷ record { kind = ReadingPairing; byte = 0x56; sorts = ReadingName ∷ ReadingName ∷ Unused ∷ Unused ∷ [] }
    ∷ record { kind = Writes; byte = 0x57; sorts = TableName ∷ TableName ∷ SlotName ∷ ReadingName ∷ [] }
    ∷ record { kind = Reads; byte = 0x52; sorts = TableName ∷ SlotName ∷ ReadingName ∷ Unused ∷ [] }
    ∷ record { kind = Equals; byte = 0x45; sorts = TableName ∷ TableName ∷ Unused ∷ Unused ∷ [] }
    ∷ record { kind = Differs; byte = 0x44; sorts = TableName ∷ TableName ∷ Unused ∷ Unused ∷ [] }
    ∷ []

-- the first of the rows that has this byte
abbrev pub row_in : List Row → ℕ → Option Row
row_in rows byte = find (λ row. row.byte == byte) rows

-- where the row of a kind stands in the table
abbrev pub place : Kind → ℕ
place Opening = 0
place SlotPairing = 1
place ReadingPairing = 2
place Writes = 3
place Reads = 4
place Equals = 5
place Differs = 6

abbrev pub row_of : Kind → Row
row_of kind = slice_index_or kinds (place kind) opening

-- does a field of this sort count?
abbrev pub counts : Sort → Bool
counts Count = true
counts TableName = true
counts SlotName = true
counts ReadingName = true
counts Unused = false

-- what a field is written as
abbrev pub kept : Sort → ℕ → ℕ
kept s field = cond (counts s) field 0

-- is the field 0, or one that counts?
abbrev pub allows : Sort → ℕ → Bool
allows s field = counts s || field == 0

-- what a function makes of each sort and its field
abbrev pub each_field : {A : Type 0} → (Sort → ℕ → A) → List Sort → List ℕ → List A
each_field f sorts fields = map (λ p. f p.0 p.1) (zip sorts fields)

-- the fields, with 0 for each that does not count
abbrev pub masked : List Sort → List ℕ → List ℕ
masked = each_field kept

-- is each field that does not count 0?
abbrev pub unused_are_zero : List Sort → List ℕ → Bool
unused_are_zero sorts fields = list_all (λ p. allows p.0 p.1) (zip sorts fields)
