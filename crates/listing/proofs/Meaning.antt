-- What a listing means: a log lists as these records exactly when it is their bytes.
use Rattle.std.proofs.Common.{◌≡◌, ℕ, zero, suc, ◌+◌, ◌*◌, ◌/◌, ◌<◌, ◌≤◌, Bool, true, false, cond, ltb, List, [], ◌∷◌, ◌++◌, length, drop, Some, None, Ok, Err, sym, refl, ap, ◌∙◌, arith, lit<}
use native.Mathlib.Nat.{mul-div_cancel_left}
use Rattle.std.proofs.lemmas.List.{drop_at, drop-drop, length-append, take-append-drop}
use Rattle.std.proofs.lemmas.Bool.{cond-false, le-ltb}
use Rattle.record.specs.declared.entry.Record.{Record}
use Rattle.record.specs.Records.{bytes_of, read_one}
use Rattle.record.proofs.RoundTrip.{back, none_left, only, seven_bytes}
use Rattle.listing.specs.declared.line.Fault.TheVariants.{LogTooLong}
use Rattle.listing.specs.declared.line.Line.TheVariants.{Read, Records, Refused}
use Rattle.listing.specs.Lines.{ListsRecords, end_lines, lines_from, log_of, numbered}
use Rattle.listing.proofs.Steps.{Answer, lines, turn}
use Rattle.listing.specs.Names.{Sorts, nothing, refusal_of, sorts_after}

nth : (k : ℕ) → 7 * k / 7 ≡ k
nth k = mul-div_cancel_left k (lit< tt)

next : (k : ℕ) → 7 * k + 7 ≡ 7 * (k + 1)
next k = omega arith

rest_after : (k : ℕ) (log rest : List ℕ) (x : Record) → drop (7 * k) log ≡ bytes_of x ++ rest → drop (7 * (k + 1)) log ≡ rest
rest_after k log rest x e =
    ap (λ n. drop n log) (sym (next k)) ∙ sym (drop-drop 7 (7 * k) log) ∙ ap (drop 7) e ∙ drop_at (bytes_of x) rest 7 (seven_bytes x)

forth : (xs : List Record) (most k : ℕ) (log : List ℕ) (sorts : Sorts) → drop (7 * k) log ≡ log_of xs → length xs < most → lines_from most log (7 * k) sorts ≡ numbered sorts k xs
forth xs zero k log sorts rest few = absurd (omega arith)
forth [] (suc most) k log sorts rest few =
    turn most log (7 * k) sorts ∙ ap (λ bytes. lines most log (7 * k) sorts (read_one bytes)) rest ∙ ap (λ n. end_lines n sorts) (nth k)
forth (x ∷ xs) (suc most) k log sorts rest few =
    let later = forth xs most (k + 1) log (sorts_after sorts x) (rest_after k log (log_of xs) x rest) (omega arith) in
    turn most log (7 * k) sorts
    ∙ ap (λ bytes. lines most log (7 * k) sorts (read_one bytes)) rest
    ∙ ap (lines most log (7 * k) sorts) (back x (log_of xs))
    ∙ (λ i. Read (nth k i + 1) (7 * k) x (refusal_of sorts x) ∷ lines_from most log (next k i) (sorts_after sorts x))
    ∙ ap (λ ls. Read (k + 1) (7 * k) x (refusal_of sorts x) ∷ ls) later

back_from : (xs : List Record) (most k : ℕ) (log : List ℕ) (sorts : Sorts) → lines_from most log (7 * k) sorts ≡ numbered sorts k xs → drop (7 * k) log ≡ log_of xs
unfolding lines_from
back_from [] zero k log sorts e = absurd (cc)
back_from (x ∷ xs) zero k log sorts e = absurd (cc)
back_from xs (suc most) k log sorts e = go (read_one (drop (7 * k) log)) refl xs e (λ ys. back_from ys most (k + 1) log)
  where
    go : (answer : Answer) → read_one (drop (7 * k) log) ≡ answer → (ys : List Record) → lines most log (7 * k) sorts answer ≡ numbered sorts k ys → ((zs : List Record) (then : Sorts) → lines_from most log (7 * (k + 1)) then ≡ numbered then (k + 1) zs → drop (7 * (k + 1)) log ≡ log_of zs) → drop (7 * k) log ≡ log_of ys
    go (Ok (Some x)) is [] same later = absurd (cc)
    go (Ok (Some x)) is (y ∷ ys) same later =
        let first : x ≡ y = cc in
        let others : lines_from most log (7 * k + 7) (sorts_after sorts x) ≡ numbered (sorts_after sorts y) (k + 1) ys = cc in
        let rest = later ys (sorts_after sorts y) ((λ i. lines_from most log (sym (next k) i) (sorts_after sorts (sym first i))) ∙ others) in
        sym (take-append-drop 7 (drop (7 * k) log)) ∙ (λ i. ((only (drop (7 * k) log) x is).1 ∙ ap bytes_of first) i ++ (drop-drop 7 (7 * k) log ∙ ap (λ n. drop n log) (next k) ∙ rest) i)
    go (Ok None) is [] same later = none_left (drop (7 * k) log) is
    go (Ok None) is (y ∷ ys) same later = absurd (cc)
    go (Err refusal) is [] same later = absurd (cc)
    go (Err refusal) is (y ∷ ys) same later = absurd (cc)

back_all : (too_long : Bool) (log : List ℕ) (xs : List Record) → cond too_long (Refused 0 LogTooLong 0 ∷ Records 0 ∷ []) (lines_from 1171 log 0 nothing) ≡ numbered nothing 0 xs → log ≡ log_of xs
back_all true log [] e = absurd (cc)
back_all true log (x ∷ xs) e = absurd (cc)
back_all false log xs e = back_from xs 1171 0 log nothing e

log_length : (xs : List Record) → length (log_of xs) ≡ 7 * length xs
log_length [] = refl
log_length (x ∷ xs) = length-append (bytes_of x) (log_of xs) ∙ omega (arith, seven_bytes x, log_length xs)

pub lists_records : ListsRecords
lists_records = record {
  forth = λ xs few. let short : length (log_of xs) ≤ 8190 = omega (arith, log_length xs) in cond-false _ _ _ (le-ltb 8190 (length (log_of xs)) short) ∙ forth xs 1171 0 (log_of xs) nothing refl (omega arith);
  back = λ log xs e. back_all (ltb 8190 (length log)) log xs e;
}
