-- What is answered about a list of statements, by its columns. The theorems say what the answers mean.
use Rattle.std.specs.Prelude.{ℕ, zero, suc, ◌+◌, ◌-◌, ◌*◌, ◌/◌, ◌%◌, ◌^◌, Bool, cond, not, ◌&&◌, List, [], ◌∷◌, ◌++◌, map, length, take, drop, Some, None, filter, Option, ◌==◌, nat_eq, nat_lt}
use Rattle.std.specs.List.{list_any, range_with_len}
use Rattle.links.specs.Chains.{fewest, joined, lowest_joined}
use Rattle.arrangement.specs.Meaning.{Meaning, lowest}
use Rattle.statement.specs.declared.Reading.{Reading}
use Rattle.statement.specs.declared.Statement.{Statement}
use Rattle.meaning.specs.declared.apart.Apart.{Apart}
use Rattle.meaning.specs.declared.apart.Apart.TheVariants.{NoLimit, Limit}
use Rattle.meaning.specs.declared.column.Column.{Column}
use Rattle.meaning.specs.declared.column.Column.TheVariants.{At, Elsewhere}
use Rattle.meaning.specs.Columns.{alike_at, at, columns, links_at, marks_at, test}
use Rattle.meaning.specs.Fillings.{Filling, Setting}

-- What is known of a table at a column.

-- the first of the list that passes
abbrev pub first_that : {X : Type 0} → (X → Bool) → List X → Option X
first_that p [] = None
first_that p (x ∷ xs) = let later = first_that p xs in cond (p x) (Some x) later

abbrev pub reading_in : Meaning → Option (ℕ × ℕ) → Option ℕ
reading_in m None = None
reading_in m (Some mark) = Some (lowest m mark.1)

-- the reading of the first mark that a chain joins the table to, by its lowest name
abbrev pub known_by : Meaning → List (ℕ × ℕ) → List (ℕ × ℕ) → ℕ → Option ℕ
known_by m links marks t = reading_in m (first_that (λ p. joined links t p.0) marks)

unfoldable pub known : Setting → List Statement → Column → ℕ → Option ℕ
known w xs k t = known_by w.readings (links_at w xs k) (marks_at w xs k) t

-- the column of a slot name
abbrev pub column_of : Setting → ℕ → Column
column_of w i = at (lowest w.slots i)

-- Told.

-- does the table bear one of the marks?
abbrev pub bears : List (ℕ × ℕ) → ℕ → Bool
bears marks t = list_any (λ p. nat_eq p.0 t) marks

-- the fewest links from the table to a marked one
unfoldable pub distance : Setting → List Statement → Column → ℕ → Option ℕ
distance w xs k t = fewest (links_at w xs k) (bears (marks_at w xs k)) t

abbrev pub reading_and_distance : Option ℕ → Option ℕ → Option (Reading × ℕ)
reading_and_distance None d = None
reading_and_distance (Some v) None = None
reading_and_distance (Some v) (Some d) = Some (record { 0 = v }, d)

unfoldable pub told : Setting → List Statement → ℕ → ℕ → Option (Reading × ℕ)
told w xs a i = reading_and_distance (known w xs (column_of w i) a) (distance w xs (column_of w i) a)

-- Apart.

-- the columns at which the tables are not alike
abbrev pub unlike_columns : Setting → List Statement → ℕ × ℕ → List Column
unlike_columns w xs tables = filter (λ k. not (alike_at w xs tables k)) (columns w)

-- bit c for the slot class whose lowest name is c
abbrev pub bits_of : List Column → ℕ
bits_of [] = 0
bits_of (At c ∷ ks) = 2 ^ c.0 + bits_of ks
bits_of (Elsewhere ∷ ks) = bits_of ks

unfoldable pub apart : Setting → List Statement → ℕ → ℕ → Apart
apart w xs a b =
    let unlike = unlike_columns w xs (a, b) in
    cond (alike_at w xs (a, b) Elsewhere) (Limit (bits_of unlike) (length unlike)) NoLimit

-- The filling.

-- a number for each column: the lowest name of its class, and the count of slot names for elsewhere
abbrev pub place : Setting → Column → ℕ
place w (At c) = c.0
place w Elsewhere = w.slots.size

abbrev pub or_else : Option ℕ → ℕ → ℕ
or_else None n = n
or_else (Some m) n = m

-- what is known of the table, or else a number that no reading has and that the tables joined to it share
unfoldable pub cell : Setting → ℕ → List Statement → Column → ℕ → ℕ
cell w tables xs k t =
    or_else (known w xs k t) (w.readings.size + place w k * tables + lowest_joined (links_at w xs k) t)

-- the column of a slot name; elsewhere for what is no name
abbrev pub column_at : Setting → ℕ → Column
column_at w i = cond (nat_lt i w.slots.size) (column_of w i) Elsewhere

-- table by table, a number for each slot name and one for elsewhere
unfoldable pub filling : Setting → ℕ → List Statement → List ℕ
filling w tables xs =
    let row = suc w.slots.size in
    map (λ n. cell w tables xs (column_at w (n % row)) (n / row)) (range_with_len 0 (tables * row))

-- how many slot classes have their lowest name below n
abbrev pub classes_below : Meaning → ℕ → ℕ
classes_below m zero = zero
classes_below m (suc c) = let n = classes_below m c in cond (lowest m c == c) (suc n) n

-- the slot classes are numbered 0, 1, 2 and so on, by rising lowest name
unfoldable pub class_number : Meaning → ℕ → ℕ
class_number m i = classes_below m (lowest m i)

-- the column of the slot class of that number; elsewhere beyond the slot classes
abbrev pub numbered_below : Meaning → ℕ → ℕ → Column
numbered_below m n zero = Elsewhere
numbered_below m n (suc c) =
    let r = numbered_below m n c in cond (lowest m c == c && classes_below m c == n) (at c) r

unfoldable pub column_numbered : Setting → ℕ → Column
column_numbered w n = numbered_below w.slots n w.slots.size

-- the filling that the numbers stand for
unfoldable pub filled : Setting → ℕ → List Statement → Filling
filled w tables xs = record {
  slot = class_number w.slots;
  reading = lowest w.readings;
  holds = λ t n. cell w tables xs (column_numbered w n) t;
}

-- Cited.

-- The positions, from n on, of what stays of a list, when it is gone through once: one is left out where the others that are
-- still kept, those before it and all that come after, do not fit without it either.
abbrev pub staying : {X : Type 0} → (List X → Bool) → List X → ℕ → List X → List ℕ
staying fits before n [] = []
staying fits before n (x ∷ rest) =
    let stays = fits (before ++ rest) in
    let later = staying fits (cond stays (before ++ x ∷ []) before) (suc n) rest in
    cond stays (n ∷ later) later

-- the positions, from 1, of the statements to blame for that the offered one does not fit
abbrev pub cited_by : (List Statement → Bool) → List Statement → Statement → List ℕ
cited_by fits xs offered = staying (λ ys. fits (offered ∷ ys)) [] 1 xs

unfoldable pub cited : Setting → List Statement → Statement → List ℕ
cited w xs offered = cited_by (test w) xs offered

-- what stands at the positions
abbrev pub at_positions : {X : Type 0} → List X → List ℕ → List X
at_positions xs [] = []
at_positions xs (p ∷ ps) = take 1 (drop (p - 1) xs) ++ at_positions xs ps
