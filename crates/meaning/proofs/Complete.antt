-- Where the test passes, the filling that is built fits.
use Rattle.std.proofs.Common.{◌≡◌, ℕ, true, not, List, Some, None, sym, refl, subst, inl, inr}
use Rattle.std.specs.List.{list_all}
use Rattle.std.proofs.lemmas.Bool.{and_parts, both_ways, cases_Bool, cond-false, cond-true, not-true}
use Rattle.links.specs.Lists.{Member}
use Rattle.links.proofs.Lists.{all_fails, all_has}
use Rattle.links.proofs.Reach.{joined_link}
use Rattle.arrangement.specs.Lowest.{lowest_back, lowest_same}
use Rattle.statement.specs.declared.Statement.{Statement}
use Rattle.statement.specs.declared.Statement.TheVariants.{W, R, E, D}
use Rattle.meaning.specs.declared.column.Column.{Column}
use Rattle.meaning.specs.Answers.{column_numbered, filled}
use Rattle.meaning.specs.Columns.{AlikeAt, ClashAt, alike_at, clash_at, columns, difference, differences, here, link_at, links_at, mark_at, marks_at, parted, test}
use Rattle.meaning.specs.Fillings.{Equal, Filling, Fits, FitsAll, Named, Orderly, Setting, is_named}
use Rattle.meaning.proofs.Cells.{cell_alike, joined_cell, mark_cell}
use Rattle.meaning.proofs.ClassNumbers.{number_of, numbered_in, numbered_shows, slots_numbered}
use Rattle.meaning.proofs.Lists.{present_from}
use Rattle.meaning.proofs.Marks.{alike_means, clash_from}
use Rattle.meaning.proofs.Sound.{Shows, slot_named}

-- A statement fits where its links, its marks and its differences hold at every slot number.
module _ (w : Setting) (f : Filling) (col : ℕ → Column) (shows : (n : ℕ) → Shows w f (col n) n) (x : Statement) where
  pub record Holds : Type 0 where
    pub link : (n : ℕ) (p : ℕ × ℕ) → link_at w (col n) x ≡ Some p → f.holds p.0 n ≡ f.holds p.1 n
    pub mark : (n : ℕ) (p : ℕ × ℕ) → mark_at w (col n) x ≡ Some p → f.holds p.0 n ≡ f.reading p.1
    pub differ : (p : ℕ × ℕ) → difference x ≡ Some p → ¬ Equal f p.0 p.1

pub fits_from : (w : Setting) (f : Filling) (col : ℕ → Column) (shows : (n : ℕ) → Shows w f (col n) n)
    (x : Statement) → is_named w x ≡ true → Holds w f col shows x → Fits f x
fits_from w f col shows (W b a i v) nm h =
    let l = slot_named w (W b a i v) nm i.0 refl in
    let n = f.slot i.0 in
    let there : here w (col n) i.0 ≡ true = (shows n i.0 l).1 refl in (
      h.mark n (b.0, v.0) (cond-true (here w (col n) i.0) (Some (b.0, v.0)) None there),
      λ k ne.
          elim (cases_Bool (here w (col k) i.0)) [
            | inl e ↦ absurd (ne (sym ((shows k i.0 l).0 e)))
            | inr e ↦ h.link k (b.0, a.0) (cond-false (here w (col k) i.0) None (Some (b.0, a.0)) e)
          ],
    )
fits_from w f col shows (R a i v) nm h =
    let n = f.slot i.0 in
    let there : here w (col n) i.0 ≡ true = (shows n i.0 (slot_named w (R a i v) nm i.0 refl)).1 refl in
    h.mark n (a.0, v.0) (cond-true (here w (col n) i.0) (Some (a.0, v.0)) None there)
fits_from w f col shows (E a b) nm h = λ n. h.link n (a.0, b.0) refl
fits_from w f col shows (D a b) nm h = h.differ (a.0, b.0) refl

module _ (w : Setting) (laws : Orderly w) (xs : List Statement) (named : Named w xs) (passes : test w xs ≡ true) where
  calm : (k : Column) → Member k (columns w) → ClashAt w xs k → ⊥
  unfolding test clash_at
  calm k m c =
      let all = (and_parts (list_all (λ k. not (clash_at w xs k)) (columns w)) (list_all (parted w xs) (differences xs)) passes).0 in
      both_ways (clash_at w xs k) (not-true (clash_at w xs k) (all_has (λ k. not (clash_at w xs k)) (columns w) k all m))
      (clash_from w.readings (links_at w xs k) (marks_at w xs k) c)

  -- tables that are to differ are not alike at some column
  unlike : (p : ℕ × ℕ) → Member p (differences xs) → (k : Column) × Member k (columns w) × (AlikeAt w xs p k → ⊥)
  unfolding test parted alike_at
  unlike p m =
      let all = (and_parts (list_all (λ k. not (clash_at w xs k)) (columns w)) (list_all (parted w xs) (differences xs)) passes).1 in
      let some = not-true (list_all (alike_at w xs p) (columns w)) (all_has (parted w xs) (differences xs) p all m) in
      let r = all_fails (alike_at w xs p) (columns w) some in
      let k = r.0 in
      (k, r.1, λ a. both_ways (alike_at w xs p k) r.2 ((alike_means w.readings (links_at w xs k) (marks_at w xs k) p.0 p.1).1 a))

  module _ (tables : ℕ) where
    pub fitting : (x : Statement) → Member x xs → Fits (filled w tables xs) x
    unfolding filled links_at marks_at differences
    fitting x m =
        fits_from w (filled w tables xs) (column_numbered w) (numbered_shows w laws.slots) x (named x m) (record {
          link = λ n p h.
              let k = column_numbered w n in
              joined_cell w laws xs named k (calm k (numbered_in w laws.slots n)) tables p.0 p.1
              (joined_link (links_at w xs k) p.0 p.1 (inl (present_from (link_at w k) xs x p m h)));
          mark = λ n p h.
              let k = column_numbered w n in
              mark_cell w laws xs named k (calm k (numbered_in w laws.slots n)) tables p (present_from (mark_at w k) xs x p m h);
          differ = λ p h equal.
              let r = unlike p (present_from difference xs x p m h) in
              let n = number_of w laws.slots r.0 r.1 in
              r.2 (subst (AlikeAt w xs p) n.1 (cell_alike w laws xs named (column_numbered w n.0) tables p.0 p.1 (equal n.0)));
        })

    pub filled_fits : FitsAll w xs (filled w tables xs)
    unfolding filled
    filled_fits = record {
      slots = slots_numbered w laws.slots;
      readings = λ i j l k. (lowest_back w.readings laws.readings i j l k, lowest_same w.readings laws.readings i j);
      fits = fitting;
    }
