-- The lines of a log.
use Rattle.std.specs.Prelude.{◌≡◌, ℕ, zero, suc, ◌+◌, ◌*◌, ◌/◌, ◌≤◌, Bool, true, false, cond, List, [], ◌∷◌, ◌++◌, length, drop, Some, None, Ok, Err, codes, decimal, Option, Result, nat_lt}
use Rattle.std.specs.List.{range_with_len, flat_map}
use Rattle.std.specs.Option.{option_map, option_to_list}
use Rattle.arrangement.specs.Meaning.{Meaning}
use Rattle.arrangement.specs.Refusals as refusals
use Rattle.paired.specs.Pairings.{meaning_of}
use Rattle.record.specs.declared.entry.Record.{Record}
use Rattle.record.specs.declared.reader.Reader.{Reader}
use Rattle.record.specs.declared.reading.ReadRefusal.{ReadRefusal}
use Rattle.record.specs.Records as records
use Rattle.record.specs.Records.{read_one}
use Rattle.record.specs.Shown.{shown_record}
use Rattle.listing.specs.declared.line.Fault.{Fault}
use Rattle.listing.specs.declared.line.Fault.TheVariants.{LogTooLong, Reader as FromReader}
use Rattle.listing.specs.declared.line.Line.{Line}
use Rattle.listing.specs.declared.line.Line.TheVariants.{Grouped, Read, Records, Refused}
use Rattle.listing.specs.declared.class.Sort.{Sort}
use Rattle.listing.specs.declared.class.Sort.TheVariants.{Readings, Slots}
use Rattle.listing.specs.Classes.{class_of, shown_class}
use Rattle.listing.specs.Names.{Sorts, nothing, refusal_of, sorts_after}

abbrev pub number_of : Fault → ℕ
number_of LogTooLong = 37
number_of (FromReader refusal) = records.number_of refusal

abbrev pub layer_of : Fault → List ℕ
layer_of LogTooLong = codes "reader"
layer_of (FromReader refusal) = codes "reader"

abbrev pub shown_line : Line → List ℕ
shown_line (Read number offset x None) = decimal number ++ (codes " " ++ (decimal offset ++ (codes " " ++ shown_record x)))
shown_line (Read number offset x (Some refusal)) =
    decimal number ++ (codes " refused " ++ (decimal (refusals.number_of refusal) ++ (codes " pairing " ++ decimal offset)))
shown_line (Refused number fault offset) =
    decimal number ++ (codes " refused " ++ (decimal (number_of fault) ++ (codes " " ++ (layer_of fault ++ (codes " " ++ decimal offset)))))
shown_line (Records count) = codes "records " ++ decimal count
shown_line (Grouped class) = shown_class class

-- what a reader meets
abbrev pub met : Reader → Result (Option Record) ReadRefusal
met reader = read_one (drop reader.offset reader.log.now)

-- the line of what a reader met at an offset, if there is one
abbrev pub line_at : Sorts → Result (Option Record) ReadRefusal → ℕ → List Line
line_at sorts (Ok (Some x)) offset = Read (offset / 7 + 1) offset x (refusal_of sorts x) ∷ []
line_at sorts (Ok None) offset = []
line_at sorts (Err refusal) offset = Refused (offset / 7 + 1) (FromReader refusal) offset ∷ []

-- the names after what a reader met
abbrev pub sorts_then : Sorts → Result (Option Record) ReadRefusal → Sorts
sorts_then sorts (Ok (Some x)) = sorts_after sorts x
sorts_then sorts (Ok None) = sorts
sorts_then sorts (Err refusal) = sorts

-- was a record read?
abbrev pub goes_on : Result (Option Record) ReadRefusal → Bool
goes_on (Ok (Some x)) = true
goes_on (Ok None) = false
goes_on (Err refusal) = false

-- the line of the class whose lowest name is s, if it has two names and more
abbrev pub class_line : Sort → Meaning → ℕ → List Line
class_line sort m s = option_to_list (option_map Grouped (class_of sort m s))

-- the lines of all such classes, by rising lowest name
unfoldable pub class_lines : Sort → Meaning → List Line
class_lines sort m = flat_map (class_line sort m) (range_with_len 0 m.size)

-- the lines after k records
abbrev pub end_lines : ℕ → Sorts → List Line
end_lines k sorts = Records k ∷ (class_lines Slots (meaning_of sorts.slots) ++ class_lines Readings (meaning_of sorts.readings))

-- the answer of a turn: whether a record was read, or why the reader refused it
abbrev pub heard : Result (Option Record) ReadRefusal → Result Bool Fault
heard (Ok (Some x)) = Ok true
heard (Ok None) = Ok false
heard (Err refusal) = Err (FromReader refusal)

-- the answer of the last turn
abbrev pub stopped : Result (Unit {0}) Fault → Result Bool Fault
stopped (Ok done) = Ok false
stopped (Err fault) = Err fault

-- the lines that follow the records, where the reader stopped at an offset
abbrev pub ending : Result (Unit {0}) Fault → ℕ → Sorts → List Line
ending (Ok done) offset sorts = end_lines (offset / 7) sorts
ending (Err fault) offset sorts = Refused (offset / 7 + 1) fault offset ∷ end_lines (offset / 7) sorts

-- the lines from an offset on, of at most so many records
unfoldable pub lines_from : ℕ → List ℕ → ℕ → Sorts → List Line
lines_from zero log offset sorts = []
lines_from (suc most) log offset sorts =
    line_at sorts (read_one (drop offset log)) offset
    ++ cond (goes_on (read_one (drop offset log))) (lines_from most log (offset + 7) (sorts_then sorts (read_one (drop offset log)))) (end_lines (offset / 7) sorts)

-- the lines of a log: of the longest log 1,170 records and the end are read
abbrev pub lines_of : List ℕ → List Line
lines_of log = cond (nat_lt 8190 (length log)) (Refused 0 LogTooLong 0 ∷ Records 0 ∷ []) (lines_from 1171 log 0 nothing)

-- the bytes of records, one after another
abbrev pub log_of : List Record → List ℕ
log_of = flat_map records.bytes_of

-- the lines of records that stand after k others in a log
abbrev pub numbered : Sorts → ℕ → List Record → List Line
numbered sorts k [] = end_lines k sorts
numbered sorts k (x ∷ xs) = Read (k + 1) (7 * k) x (refusal_of sorts x) ∷ numbered (sorts_after sorts x) (k + 1) xs

-- What a listing means: up to the longest log, a log lists as the records xs, numbered from 1 at every seventh byte, exactly
-- when it is their bytes.
pub record ListsRecords : Type 0 where
  pub forth : (xs : List Record) → length xs ≤ 1170 → lines_of (log_of xs) ≡ numbered nothing 0 xs
  pub back : (log : List ℕ) (xs : List Record) → lines_of log ≡ numbered nothing 0 xs → log ≡ log_of xs
