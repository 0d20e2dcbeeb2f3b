-- A turn of a listing, and its end.
use Rattle.std.proofs.Common.{◌≡◌, ℕ, suc, ◌+◌, ◌-◌, ◌/◌, ◌≤◌, cond, List, [], ◌∷◌, ◌++◌, drop, Some, None, Ok, Err, Option, Result, sym, refl, ap, ◌∙◌, append_assoc, arith}
use Rattle.std.specs.Result.{result_err}
use Rattle.arrangement.specs.declared.refusal.Refusal.{Refusal}
use Rattle.paired.specs.Pairings.{answer}
use Rattle.record.specs.declared.entry.Record.{Record}
use Rattle.record.specs.declared.reading.ReadRefusal.{ReadRefusal}
use Rattle.record.specs.Records.{advance, read_one}
use Rattle.listing.specs.declared.line.Fault.{Fault}
use Rattle.listing.specs.declared.line.Line.{Line}
use Rattle.listing.specs.declared.line.Line.TheVariants.{Read}
use Rattle.listing.specs.Lines.{end_lines, ending, goes_on, heard, line_at, lines_from, sorts_then, stopped}
use Rattle.listing.specs.Names.{Sorts, nothing, refusal_of, sorts_after}

-- why a call was refused, if it was
pub told : (refusal : Option Refusal) → result_err (answer refusal (tt {0})) ≡ refusal
told None = refl
told (Some refusal) = refl

abbrev pub Answer : Type 0
Answer = Result (Option Record) ReadRefusal

-- the lines from an offset on, by what is read there
module _ (most : ℕ) (log : List ℕ) (offset : ℕ) (sorts : Sorts) where
  abbrev pub lines : Answer → List Line
  lines answer = line_at sorts answer offset ++ cond (goes_on answer) (lines_from most log (offset + 7) (sorts_then sorts answer)) (end_lines (offset / 7) sorts)

  pub turn : lines_from (suc most) log offset sorts ≡ lines (read_one (drop offset log))
  unfolding lines_from
  turn = refl

  ends_at : (answer : Answer) (read : Result (Unit {0}) Fault) → heard answer ≡ stopped read → lines answer ≡ ending read offset sorts
  ends_at (Ok (Some x)) (Ok done) e = absurd (cc)
  ends_at (Ok (Some x)) (Err fault) e = absurd (cc)
  ends_at (Ok None) (Ok done) e = refl
  ends_at (Ok None) (Err fault) e = absurd (cc)
  ends_at (Err refusal) (Ok done) e = absurd (cc)
  ends_at (Err refusal) (Err fault) e = cc

-- a reader that stops stays, and stops there again
stays : (answer : Answer) (read : Result (Unit {0}) Fault) → heard answer ≡ stopped read → advance answer ≡ 0
stays (Ok (Some x)) (Ok done) e = absurd (cc)
stays (Ok (Some x)) (Err fault) e = absurd (cc)
stays (Ok None) read e = refl
stays (Err refusal) read e = refl

pub stops_again : (log then_log : List ℕ) (offset then_offset : ℕ) (read : Result (Unit {0}) Fault) → heard (read_one (drop offset log)) ≡ stopped read → then_log ≡ log → then_offset ≡ offset + advance (read_one (drop offset log)) → heard (read_one (drop then_offset then_log)) ≡ stopped read
stops_again log then_log offset then_offset read stops logs offsets =
    let same : then_offset ≡ offset = omega (arith, offsets, stays (read_one (drop offset log)) read stops) in
    (λ i. heard (read_one (drop (same i) (logs i)))) ∙ stops

-- a record is listed: its line and those of the rest of the log are the lines from its offset on
pub one_more : (log then_log : List ℕ) (offset then_offset : ℕ) (sorts then_sorts : Sorts) (items then_items : List Line) (x : Record) → read_one (drop offset log) ≡ Ok (Some x) → then_log ≡ log → then_offset ≡ offset + 7 → then_sorts ≡ sorts_after sorts x → then_items ≡ items ++ (Read (offset / 7 + 1) offset x (refusal_of sorts x) ∷ []) → offset ≤ 8190 → items ++ lines_from (1171 - offset / 7) log offset sorts ≡ lines_from 1171 log 0 nothing → then_items ++ lines_from (1171 - then_offset / 7) then_log then_offset then_sorts ≡ lines_from 1171 then_log 0 nothing
one_more log then_log offset then_offset sorts then_sorts items then_items x read logs offsets names listed short whole =
    let most : ℕ = 1170 - offset / 7 in
    let here : 1171 - offset / 7 ≡ suc most = omega arith in
    let there : 1171 - then_offset / 7 ≡ most = omega arith in
    let line : List Line = Read (offset / 7 + 1) offset x (refusal_of sorts x) ∷ [] in
    (λ i. listed i ++ lines_from (there i) (logs i) (offsets i) (names i))
    ∙ append_assoc items line _
    ∙ ap (λ lines. items ++ lines) (sym (turn most log offset sorts ∙ ap (lines most log offset sorts) read))
    ∙ ap (λ n. items ++ lines_from n log offset sorts) (sym here)
    ∙ whole
    ∙ ap (λ l. lines_from 1171 l 0 nothing) (sym logs)

-- the reader stops: with its end the lines so far are those of the whole log
pub finished : (log : List ℕ) (offset : ℕ) (sorts : Sorts) (items whole : List Line) (read : Result (Unit {0}) Fault) → heard (read_one (drop offset log)) ≡ stopped read → offset ≤ 8190 → items ++ lines_from (1171 - offset / 7) log offset sorts ≡ whole → items ++ ending read offset sorts ≡ whole
finished log offset sorts items whole read stops short is =
    let most : ℕ = 1170 - offset / 7 in
    let here : 1171 - offset / 7 ≡ suc most = omega arith in
    let ends = turn most log offset sorts ∙ ends_at most log offset sorts (read_one (drop offset log)) read stops in
    ap (λ lines. items ++ lines) (sym ends) ∙ ap (λ n. items ++ lines_from n log offset sorts) (sym here) ∙ is
