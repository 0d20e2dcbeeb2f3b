-- How a record is printed.
use Rattle.std.specs.Prelude.{ℕ, cond, List, [], ◌∷◌, ◌++◌, decimal}
use Rattle.std.specs.List.{concat}
use Rattle.std.proofs.Math.Utf8.{encode}
use Rattle.record.specs.declared.entry.Record.{Record}
use Rattle.record.specs.declared.kinds.Sort.{Sort}
use Rattle.record.specs.Kinds.{counts, each_field, row_of}
use Rattle.record.specs.Records.{fields_of, kind_of}

-- a space and the number where a field counts, else nothing
abbrev pub shown_field : Sort → ℕ → List ℕ
shown_field s field = cond (counts s) (32 ∷ decimal field) []

-- the letter of the kind, and the fields that count
abbrev pub shown_record : Record → List ℕ
shown_record x = encode (row_of (kind_of x)).byte ++ concat (each_field shown_field (row_of (kind_of x)).sorts (fields_of x))
