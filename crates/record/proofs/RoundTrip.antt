-- A record is read from its own seven bytes, and from no others.
use Rattle.std.proofs.Common.{◌≡◌, ℕ, suc, ◌+◌, ◌<◌, ◌≤◌, Bool, true, false, cond, ◌||◌, eqb, ltb, List, [], ◌∷◌, ◌++◌, map, length, get_or, take, drop, Some, None, Ok, Err, Option, Result, sym, refl, ap, ◌∙◌, subst, arith, lit<}
use Rattle.std.proofs.lemmas.List.{drop_at, get_or-map, nil_from_length}
use Rattle.std.proofs.lemmas.Bool.{and_from, and_parts, cond-false, cond-true, eqb-true, le-ltb, ltb-false, ne_eqb}
use Rattle.statement.specs.declared.Statement.TheVariants.{W, R, E, D}
use Rattle.record.specs.declared.entry.Record.{Record}
use Rattle.record.specs.declared.entry.Record.TheVariants.{Open, PairSlots, PairReadings, State}
use Rattle.record.specs.declared.kinds.Kind.{Kind}
use Rattle.record.specs.declared.kinds.Kind.TheVariants.{Opening, SlotPairing, ReadingPairing, Writes, Reads, Equals, Differs}
use Rattle.record.specs.declared.kinds.Row.{Row}
use Rattle.record.specs.declared.kinds.Sort.{Sort}
use Rattle.record.specs.declared.reading.ReadRefusal.{ReadRefusal}
use Rattle.record.specs.declared.reading.ReadRefusal.TheVariants.{Incomplete, Unmarked, UnusedFieldSet}
use Rattle.record.specs.Kinds.{allows, counts, kinds, masked, opening, place, row_in, row_of, unused_are_zero}
use Rattle.record.specs.Records.{OneRecordEach, advance, bytes_of, fields_in, fields_of, kind_of, marked, read_fields, read_one, record_of, record_with}

-- The rule of the table, at every row at once: the row is found by its byte and by its kind, it has four fields, and a
-- record of its kind gives back the kind and the fields that count.
abbrev Facts : Type 0
Facts = Option Row × Row × ℕ × Kind × List ℕ

abbrev asked : ℕ → ℕ → ℕ → ℕ → Row → Facts
asked x y z u row = (
  row_in kinds row.byte,
  row_of row.kind,
  length row.sorts,
  kind_of (record_with row.kind x y z u),
  fields_of (record_with row.kind x y z u),
)

abbrev wanted : ℕ → ℕ → ℕ → ℕ → Row → Facts
wanted x y z u row = (Some row, row, 4, row.kind, masked row.sorts (x ∷ y ∷ z ∷ u ∷ []))

rule : (x y z u : ℕ) → map (asked x y z u) kinds ≡ map (wanted x y z u) kinds
rule x y z u = refl

-- the rule, at one row
at_row : (x y z u k : ℕ) → k < length kinds → asked x y z u (get_or kinds k opening) ≡ wanted x y z u (get_or kinds k opening)
at_row x y z u k within =
    let d : Facts = asked x y z u opening in
    sym (get_or-map (asked x y z u) kinds k opening d within) ∙ ap (λ facts. get_or facts k d) (rule x y z u) ∙ get_or-map (wanted x y z u) kinds k opening d within

-- the rule, at the row of a kind
place_within : (kind : Kind) → place kind < length kinds
place_within Opening = lit< tt
place_within SlotPairing = lit< tt
place_within ReadingPairing = lit< tt
place_within Writes = lit< tt
place_within Reads = lit< tt
place_within Equals = lit< tt
place_within Differs = lit< tt

at_kind : (kind : Kind) → asked 0 0 0 0 (row_of kind) ≡ wanted 0 0 0 0 (row_of kind)
at_kind kind = at_row 0 0 0 0 (place kind) (place_within kind)

-- where a row that was found stands
row_place : (rows : List Row) (byte : ℕ) (row : Row) → row_in rows byte ≡ Some row → (k : ℕ) × (k < length rows) × (get_or rows k opening ≡ row) × (row.byte ≡ byte)
row_place [] byte row e = absurd (cc)
row_place (r ∷ rows) byte row e = go (eqb r.byte byte) refl e (row_place rows byte row)
  where
    go : (t : Bool) → eqb r.byte byte ≡ t → cond t (Some r) (row_in rows byte) ≡ Some row → (row_in rows byte ≡ Some row → (k : ℕ) × (k < length rows) × (get_or rows k opening ≡ row) × (row.byte ≡ byte)) → (k : ℕ) × (k < length (r ∷ rows)) × (get_or (r ∷ rows) k opening ≡ row) × (row.byte ≡ byte)
    go true test found later = let same : r ≡ row = cc in (0, omega arith, same, ap (λ x. x.byte) (sym same) ∙ eqb-true _ _ test)
    go false test found later = let at = later found in (suc at.0, omega arith, at.2, at.3)

-- a field that may stand is written as it is, and what is written may stand
field_same : (counted : Bool) (x : ℕ) → (counted || eqb x 0) ≡ true → cond counted x 0 ≡ x
field_same true x e = refl
field_same false x e = sym (eqb-true x 0 e)

field_clear : (counted : Bool) (x : ℕ) → (counted || eqb (cond counted x 0) 0) ≡ true
field_clear true x = refl
field_clear false x = refl

masked_same : (sorts : List Sort) (fields : List ℕ) → length fields ≡ length sorts → unused_are_zero sorts fields ≡ true → masked sorts fields ≡ fields
masked_same [] [] e clear = refl
masked_same [] (x ∷ fields) e clear = absurd (omega arith)
masked_same (s ∷ sorts) [] e clear = refl
masked_same (s ∷ sorts) (x ∷ fields) e clear =
    let parts = and_parts (allows s x) (unused_are_zero sorts fields) clear in
    let first = field_same (counts s) x parts.0 in
    let rest = masked_same sorts fields (omega arith) parts.1 in
    cc

masked_clear : (sorts : List Sort) (fields : List ℕ) → unused_are_zero sorts (masked sorts fields) ≡ true
masked_clear [] fields = refl
masked_clear (s ∷ sorts) [] = refl
masked_clear (s ∷ sorts) (x ∷ fields) = and_from _ _ (field_clear (counts s) x) (masked_clear sorts fields)

masked_length : (sorts : List Sort) (fields : List ℕ) → length fields ≡ length sorts → length (masked sorts fields) ≡ length sorts
masked_length [] fields e = refl
masked_length (s ∷ sorts) [] e = absurd (omega arith)
masked_length (s ∷ sorts) (x ∷ fields) e = ap suc (masked_length sorts fields (omega arith))

-- the first seven bytes, one by one
seven : (bytes : List ℕ) → 7 ≤ length bytes → take 7 bytes ≡ get_or bytes 0 0 ∷ get_or bytes 1 0 ∷ get_or bytes 2 0 ∷ get_or bytes 3 0 ∷ get_or bytes 4 0 ∷ get_or bytes 5 0 ∷ get_or bytes 6 0 ∷ []
seven [] h = absurd (omega arith)
seven (a ∷ []) h = absurd (omega arith)
seven (a ∷ b ∷ []) h = absurd (omega arith)
seven (a ∷ b ∷ c ∷ []) h = absurd (omega arith)
seven (a ∷ b ∷ c ∷ d ∷ []) h = absurd (omega arith)
seven (a ∷ b ∷ c ∷ d ∷ e ∷ []) h = absurd (omega arith)
seven (a ∷ b ∷ c ∷ d ∷ e ∷ f ∷ []) h = absurd (omega arith)
seven (a ∷ b ∷ c ∷ d ∷ e ∷ f ∷ g ∷ rest) h = refl

-- what the tests of a reader say where it reads a record
read_tests : (empty short marked : Bool) (answer : Result (Option Record) ReadRefusal) (x : Record) → cond empty (Ok None) (cond short (Err Incomplete) (cond marked answer (Err Unmarked))) ≡ Ok (Some x) → (short ≡ false) × (marked ≡ true) × (answer ≡ Ok (Some x))
read_tests true short marked answer x e = absurd (cc)
read_tests false true marked answer x e = absurd (cc)
read_tests false false true answer x e = (refl, refl, e)
read_tests false false false answer x e = absurd (cc)

read_row : (found : Option Row) (fields : List ℕ) (x : Record) → read_fields found fields ≡ Ok (Some x) → (row : Row) × (found ≡ Some row) × (unused_are_zero row.sorts fields ≡ true) × (record_of row.kind fields ≡ x)
read_row None fields x e = absurd (cc)
read_row (Some row) fields x e = go (unused_are_zero row.sorts fields) refl e
  where
    go : (t : Bool) → unused_are_zero row.sorts fields ≡ t → cond t (Ok (Some (record_of row.kind fields))) (Err UnusedFieldSet) ≡ Ok (Some x) → (r : Row) × (Some row ≡ Some r) × (unused_are_zero r.sorts fields ≡ true) × (record_of r.kind fields ≡ x)
    go true test found = (row, refl, test, cc)
    go false test found = absurd (cc)

-- the bytes of a record that is made of a row and fields that may stand
own_bytes : (row : Row) (k : ℕ) → k < length kinds → get_or kinds k opening ≡ row → (x y z u : ℕ) → unused_are_zero row.sorts (x ∷ y ∷ z ∷ u ∷ []) ≡ true → bytes_of (record_with row.kind x y z u) ≡ 0x4D ∷ 0x54 ∷ row.byte ∷ x ∷ y ∷ z ∷ u ∷ []
own_bytes row k within is x y z u clear =
    let Rule : Row → Type 0 = λ r. asked x y z u r ≡ wanted x y z u r in
    let facts : asked x y z u row ≡ wanted x y z u row = subst Rule is (at_row x y z u k within) in
    let found : row_of (kind_of (record_with row.kind x y z u)) ≡ row = ap (λ (f : Facts). row_of f.3) facts ∙ ap (λ (f : Facts). f.1) facts in
    let same : masked row.sorts (x ∷ y ∷ z ∷ u ∷ []) ≡ x ∷ y ∷ z ∷ u ∷ [] = masked_same row.sorts _ (sym (ap (λ (f : Facts). f.2) facts)) clear in
    ap (λ (r : Row). 0x4D ∷ 0x54 ∷ r.byte ∷ masked r.sorts (fields_of (record_with row.kind x y z u))) found
    ∙ ap (λ fields. 0x4D ∷ 0x54 ∷ row.byte ∷ masked row.sorts fields) (ap (λ (f : Facts). f.4) facts ∙ same)
    ∙ ap (λ fields. 0x4D ∷ 0x54 ∷ row.byte ∷ fields) same

-- a record is read from its own seven bytes alone
pub only : (bytes : List ℕ) (x : Record) → read_one bytes ≡ Ok (Some x) → (7 ≤ length bytes) × (take 7 bytes ≡ bytes_of x)
only bytes x e =
    let tests = read_tests (eqb (length bytes) 0) (ltb (length bytes) 7) (marked bytes) _ x e in
    let long = ltb-false (length bytes) 7 tests.0 in
    let mark = and_parts (eqb (get_or bytes 0 0) 0x4D) (eqb (get_or bytes 1 0) 0x54) tests.1 in
    let first = eqb-true (get_or bytes 0 0) 0x4D mark.0 in
    let second = eqb-true (get_or bytes 1 0) 0x54 mark.1 in
    let found = read_row (row_in kinds (get_or bytes 2 0)) (fields_in bytes) x tests.2 in
    let at = row_place kinds (get_or bytes 2 0) found.0 found.1 in
    let own = own_bytes found.0 at.0 at.1 at.2 (get_or bytes 3 0) (get_or bytes 4 0) (get_or bytes 5 0) (get_or bytes 6 0) found.2 in
    let same = ap bytes_of found.3 in
    let all = seven bytes long in
    let kind = at.3 in
    (long, cc)

-- a record has four fields, and those that count say all that it says
abbrev Said : Record → Type 0
Said x = (length (fields_of x) ≡ 4) × (record_of (row_of (kind_of x)).kind (masked (row_of (kind_of x)).sorts (fields_of x)) ≡ x)

said : (x : Record) → Said x
said (Open tables slots readings) = (refl, refl)
said (PairSlots i j) = (refl, refl)
said (PairReadings v w) = (refl, refl)
said (State (W b a i v)) = (refl, refl)
said (State (R a i v)) = (refl, refl)
said (State (E a b)) = (refl, refl)
said (State (D a b)) = (refl, refl)

-- what a reader does with seven bytes and more that begin with the mark
reads_fields : (byte : ℕ) (fields rest : List ℕ) → length fields ≡ 4 → read_one (0x4D ∷ 0x54 ∷ byte ∷ (fields ++ rest)) ≡ read_fields (row_in kinds byte) fields
reads_fields byte [] rest e = absurd (omega arith)
reads_fields byte (x ∷ []) rest e = absurd (omega arith)
reads_fields byte (x ∷ y ∷ []) rest e = absurd (omega arith)
reads_fields byte (x ∷ y ∷ z ∷ []) rest e = absurd (omega arith)
reads_fields byte (x ∷ y ∷ z ∷ u ∷ []) rest e =
    let n : ℕ = length (0x4D ∷ 0x54 ∷ byte ∷ x ∷ y ∷ z ∷ u ∷ rest) in
    let long : 7 ≤ n = omega arith in
    let some : n ≡ 0 → ⊥ = λ none. omega arith in
    cond-false _ _ _ (ne_eqb _ _ some) ∙ cond-false _ _ _ (le-ltb _ _ long)
reads_fields byte (x ∷ y ∷ z ∷ u ∷ w ∷ more) rest e = absurd (omega arith)

-- a record has seven bytes
four_fields : (x : Record) → length (masked (row_of (kind_of x)).sorts (fields_of x)) ≡ 4
four_fields x =
    let four : length (row_of (kind_of x)).sorts ≡ 4 = ap (λ (f : Facts). f.2) (at_kind (kind_of x)) in
    masked_length (row_of (kind_of x)).sorts (fields_of x) ((said x).0 ∙ sym four) ∙ four

pub seven_bytes : (x : Record) → length (bytes_of x) ≡ 7
seven_bytes x = omega (arith, four_fields x)

-- a record is read back from its seven bytes, whatever follows
pub back : (x : Record) (rest : List ℕ) → read_one (bytes_of x ++ rest) ≡ Ok (Some x)
back x rest =
    let row : Row = row_of (kind_of x) in
    let found : row_in kinds row.byte ≡ Some row = ap (λ (f : Facts). f.0) (at_kind (kind_of x)) in
    let fields : List ℕ = masked row.sorts (fields_of x) in
    reads_fields row.byte fields rest (four_fields x)
    ∙ ap (λ o. read_fields o fields) found
    ∙ cond-true _ _ _ (masked_clear row.sorts (fields_of x))
    ∙ ap (λ r. Ok (Some r)) (said x).1

-- a reader that answers none is at the end
no_fields : (found : Option Row) (fields : List ℕ) → read_fields found fields ≡ Ok None → ⊥
no_fields None fields e = absurd (cc)
no_fields (Some row) fields e = go (unused_are_zero row.sorts fields) e
  where
    go : (t : Bool) → cond t (Ok (Some (record_of row.kind fields))) (Err UnusedFieldSet) ≡ Ok None → ⊥
    go true found = absurd (cc)
    go false found = absurd (cc)

none_tests : (empty short marked : Bool) (answer : Result (Option Record) ReadRefusal) → (answer ≡ Ok None → ⊥) → cond empty (Ok None) (cond short (Err Incomplete) (cond marked answer (Err Unmarked))) ≡ Ok None → empty ≡ true
none_tests true short marked answer never e = refl
none_tests false true marked answer never e = absurd (cc)
none_tests false false true answer never e = absurd (never e)
none_tests false false false answer never e = absurd (cc)

pub none_left : (bytes : List ℕ) → read_one bytes ≡ Ok None → bytes ≡ []
none_left bytes e = nil_from_length bytes (eqb-true (length bytes) 0 (none_tests (eqb (length bytes) 0) (ltb (length bytes) 7) (marked bytes) _ (no_fields (row_in kinds (get_or bytes 2 0)) (fields_in bytes)) e))

pub one_record_each : OneRecordEach
one_record_each = record {
  back = λ before rest x. let read : read_one (drop (length before) (before ++ (bytes_of x ++ rest))) ≡ Ok (Some x) = ap read_one (drop_at before (bytes_of x ++ rest) (length before) refl) ∙ back x rest in λ i. (read i, length before + advance (read i));
  only = λ log offset x e. (only (drop offset log) x e).1;
}
