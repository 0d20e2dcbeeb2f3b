-- What a table of standing statements keeps, as the sight of a column asks for it.
use Rattle.std.specs.Prelude.{◌≡◌, ℕ, ◌<◌, ◌≤◌, true, false, not, List, nat_lt}
use Rattle.std.specs.List.{list_all}
use Rattle.std.proofs.Common.{subst, ◌∙◌, arith}
use Rattle.std.proofs.lemmas.Bool.{and_from, and_parts, lt-ltb, ltb-true, not-true}
use Rattle.links.specs.Lists.{Member}
use Rattle.links.proofs.Lists.{all_from, all_has}
use Rattle.arrangement.specs.Kept.{lawful}
use Rattle.column.specs.Naming.{setting_of}
use Rattle.column.specs.Sights.{Readable, SeenAt, reading_of, seem_alike}
use Rattle.column.specs.declared.naming.Naming.{Naming}
use Rattle.column.specs.declared.sight.Sight.{Sight}
use Rattle.column.proofs.Seeing.{alike_is, clash_is, reading_is}
use Rattle.meaning.specs.declared.column.Column.{Column}
use Rattle.meaning.specs.Answers.{known}
use Rattle.meaning.specs.Columns.{alike_at, clash_at, columns, differences, links_at, marks_at, parted, test}
use Rattle.meaning.specs.Fillings.{Orderly, Setting, is_named, is_within, tables_of}
use Rattle.standing.specs.declared.standing.Standing.{Standing}
use Rattle.statement.specs.declared.Statement.{Statement}
use Rattle.questions.specs.Asked.{list_in, setting_in}

-- names below a count are below a higher one
within_more : (low high : ℕ) → low ≤ high → (w : Setting) (x : Statement) → is_within low w x ≡ true → is_within high w x ≡ true
within_more low high le w x h =
    let parts = and_parts (list_all (λ t. nat_lt t low) (tables_of x)) (is_named w x) h in
    and_from (list_all (λ t. nat_lt t high) (tables_of x)) (is_named w x)
    (all_from (λ t. nat_lt t high) (tables_of x)
    (λ t m. lt-ltb t high (omega (arith, ltb-true t low (all_has (λ t. nat_lt t low) (tables_of x) t parts.0 m)))))
    parts.1

module _ (s : Standing) where
  pub within : list_all (is_within s.tables (setting_in s)) (list_in s) ≡ true
  within = (and_parts (list_all (is_within s.tables (setting_in s)) (list_in s)) (test (setting_in s) (list_in s)) s.stands).0

  pub passes : test (setting_in s) (list_in s) ≡ true
  passes = (and_parts (list_all (is_within s.tables (setting_in s)) (list_in s)) (test (setting_in s) (list_in s)) s.stands).1

  pub readable : Readable (setting_in s) (list_in s)
  readable x m = within_more s.tables 128 s.few (setting_in s) x (all_has (is_within s.tables (setting_in s)) (list_in s) x within m)

  pub orderly : Orderly (setting_in s)
  orderly = record { slots = lawful s.naming.slots; readings = lawful s.naming.readings }

  -- no column clashes
  pub calm : (k : Column) → Member k (columns (setting_in s)) → clash_at (setting_in s) (list_in s) k ≡ false
  unfolding test
  calm k m =
      let w = setting_in s in
      let xs = list_in s in
      not-true (clash_at w xs k)
      (all_has (λ k. not (clash_at w xs k)) (columns w) k
      (and_parts (list_all (λ k. not (clash_at w xs k)) (columns w)) (list_all (parted w xs) (differences xs)) passes).0 m)

-- What a sight of a column tells of the standing statements.
module _ (s : Standing) (k : Column) (r : Sight) where
  pub seen_in : (n : Naming) (xs : List Statement) → n ≡ s.naming → xs ≡ list_in s
      → (Readable (setting_of n) xs → SeenAt (setting_of n) xs k r) → SeenAt (setting_in s) (list_in s) k r
  seen_in n xs named listed sees =
      subst (λ n. Readable (setting_of n) (list_in s) → SeenAt (setting_of n) (list_in s) k r) named
      (subst (λ xs. Readable (setting_of n) xs → SeenAt (setting_of n) xs k r) listed sees) (readable s)

  module _ (seen : SeenAt (setting_in s) (list_in s) k r) where
    pub known_is : (t : ℕ) → t < s.tables → reading_of r t ≡ known (setting_in s) (list_in s) k t
    unfolding known
    known_is t l =
        let w = setting_in s in
        reading_is w.readings (orderly s).readings (links_at w (list_in s) k) (marks_at w (list_in s) k) r seen t (omega (arith, s.few))

    -- no column clashes, so tables are alike there exactly when they seem so
    pub alike_at_lem : (a b : ℕ) → a < s.tables → b < s.tables → Member k (columns (setting_in s))
        → seem_alike r a b ≡ alike_at (setting_in s) (list_in s) (a, b) k
    unfolding alike_at clash_at
    alike_at_lem a b la lb m =
        let w = setting_in s in
        let L = links_at w (list_in s) k in
        let M = marks_at w (list_in s) k in
        alike_is w.readings (orderly s).readings L M r seen
        (clash_is w.readings (orderly s).readings L M r seen ∙ calm s k m) a b (omega (arith, s.few)) (omega (arith, s.few))
