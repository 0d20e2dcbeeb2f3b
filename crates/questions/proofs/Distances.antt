-- What is told of the standing statements.
use Rattle.std.proofs.Common.{◌≡◌, ℕ, zero, suc, ◌<◌, Bool, true, false, cond, ◌&&◌, ◌||◌, ltb, List, [], ◌∷◌, length, Some, None, Option, sym, ap, ◌∙◌}
use Rattle.std.proofs.lemmas.Bool.{and_from, cond-true, lt-ltb}
use Rattle.links.specs.Chains.{fewest, seek, spread}
use Rattle.links.specs.Lists.{present}
use Rattle.arrangement.specs.Meaning.{lowest}
use Rattle.column.specs.Naming.{setting_of}
use Rattle.column.specs.declared.naming.Naming.{Naming}
use Rattle.meaning.specs.declared.column.Column.{Column}
use Rattle.meaning.specs.Answers.{bears, distance, known, reading_and_distance, told}
use Rattle.meaning.specs.Columns.{at, links_at, marks_at}
use Rattle.search.specs.Entries.{searched}
use Rattle.standing.specs.declared.standing.Standing.{Standing}
use Rattle.statement.specs.declared.Statement.{Statement}
use Rattle.questions.specs.Asked.{links_in, list_in, setting_in, told_answer}

-- what the search of the gathered links finds is the distance
pub distance_is : (s : Standing) (k : Column) (t count : ℕ) (links : List (Option (ℕ × ℕ))) (n : Naming) (xs : List Statement)
    → count ≡ s.tables → links ≡ links_in s k → n ≡ s.naming → xs ≡ list_in s → t < s.tables
    → searched count (present links) (bears (marks_at (setting_of n) xs k)) t ≡ distance (setting_in s) (list_in s) k t
unfolding distance links_at
distance_is s k t count links n xs counted gathered named listed l =
    (λ i. searched (counted i) (present (gathered i)) (bears (marks_at (setting_of (named i)) (listed i) k)) t)
    ∙ cond-true (ltb t s.tables) (fewest (present (links_in s k)) (bears (marks_at (setting_in s) (list_in s) k)) t) None (lt-ltb t s.tables l)

-- a marked table is at distance 0 from itself
seek_here : (links : List (ℕ × ℕ)) (goal : ℕ → Bool) (left t : ℕ) → goal t ≡ true → seek links goal left 0 (t ∷ []) ≡ Some 0
seek_here links goal zero t met = ap (λ b. cond (b || false) (Some 0) None) met
seek_here links goal (suc left) t met = ap (λ b. cond (b || false) (Some 0) (seek links goal left 1 (spread links (t ∷ [])))) met

pub distance_itself : (s : Standing) (k : Column) (t : ℕ) (n : Naming) (xs : List Statement) → n ≡ s.naming → xs ≡ list_in s
    → bears (marks_at (setting_of n) xs k) t ≡ true → Some 0 ≡ distance (setting_in s) (list_in s) k t
unfolding distance fewest
distance_itself s k t n xs named listed met =
    let w = setting_in s in
    let ys = list_in s in
    let here : bears (marks_at w ys k) t ≡ true = (λ i. bears (marks_at (setting_of (sym named i)) (sym listed i) k) t) ∙ met in
    sym (seek_here (links_at w ys k) (bears (marks_at w ys k)) (length (links_at w ys k)) t here)

-- what is told at the column of the lowest name of i is told at i
pub told_is : (s : Standing) (a i c : ℕ) → a < s.tables → i < (setting_in s).slots.size → c ≡ lowest (setting_in s).slots i
    → reading_and_distance (known (setting_in s) (list_in s) (at c) a) (distance (setting_in s) (list_in s) (at c) a) ≡ told_answer s a i
unfolding told
told_is s a i c la li e =
    let w = setting_in s in
    let xs = list_in s in
    ap (λ (c : ℕ). reading_and_distance (known w xs (at c) a) (distance w xs (at c) a)) e
    ∙ sym (cond-true (ltb a s.tables && ltb i w.slots.size) (told w xs a i) None
    (and_from (ltb a s.tables) (ltb i w.slots.size) (lt-ltb a s.tables la) (lt-ltb i w.slots.size li)))
