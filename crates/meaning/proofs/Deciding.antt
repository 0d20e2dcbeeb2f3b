-- The columns decide.
use Rattle.std.proofs.Common.{◌≡◌, true, false, not, ◌⊎◌, List, inl, inr}
use Rattle.std.specs.List.{list_all}
use Rattle.std.proofs.lemmas.Bool.{and_cases, cases_Bool, not-false}
use Rattle.links.proofs.Lists.{all_fails, all_has}
use Rattle.statement.specs.declared.Statement.{Statement}
use Rattle.meaning.specs.Answers.{filled}
use Rattle.meaning.specs.Columns.{AlikeThroughout, SomeClash, alike_at, clash_at, columns, differences, links_at, marks_at, parted, test}
use Rattle.meaning.specs.Fillings.{Fillable, Named, Orderly, Setting}
use Rattle.meaning.specs.Theorems.{ColumnsDecide, Decided}
use Rattle.meaning.proofs.Complete.{filled_fits}
use Rattle.meaning.proofs.Marks.{alike_means, clash_has}
use Rattle.meaning.proofs.Sound.{no_clash, not_throughout}

-- a test that fails names the reason
fails_why : (w : Setting) (xs : List Statement) → test w xs ≡ false → SomeClash w xs ⊎ AlikeThroughout w xs
unfolding test clash_at parted alike_at
fails_why w xs h =
    elim (and_cases (list_all (λ k. not (clash_at w xs k)) (columns w)) (list_all (parted w xs) (differences xs)) h) [
      | inl e ↦
          let r = all_fails (λ k. not (clash_at w xs k)) (columns w) e in
          inl (record {
            column = r.0;
            among = r.1;
            clash = clash_has w.readings (links_at w xs r.0) (marks_at w xs r.0) (not-false (clash_at w xs r.0) r.2);
          })
      | inr e ↦
          let r = all_fails (parted w xs) (differences xs) e in
          let p = r.0 in
          let all = not-false (list_all (alike_at w xs p) (columns w)) r.2 in
          inr (record {
            tables = p;
            differ = r.1;
            alike = λ k m. (alike_means w.readings (links_at w xs k) (marks_at w xs k) p.0 p.1).0 (all_has (alike_at w xs p) (columns w) k all m);
          })
    ]

module _ (w : Setting) (laws : Orderly w) (xs : List Statement) (named : Named w xs) where
  why_never : SomeClash w xs ⊎ AlikeThroughout w xs → ¬ Fillable w xs
  why_never (inl c) f = no_clash w laws.slots xs f.0 f.1 named c
  why_never (inr d) f = not_throughout w laws.slots xs f.0 f.1 named d

  pub passes_fillable : test w xs ≡ true → Fillable w xs
  passes_fillable h = (filled w 0 xs, filled_fits w laws xs named h 0)

  pub fillable_passes : Fillable w xs → test w xs ≡ true
  fillable_passes f = elim (cases_Bool (test w xs)) [ inl e ↦ e | inr e ↦ absurd (why_never (fails_why w xs e) f) ]

  pub never_fails : ¬ Fillable w xs → test w xs ≡ false
  never_fails never = elim (cases_Bool (test w xs)) [ inl e ↦ absurd (never (passes_fillable e)) | inr e ↦ e ]

  decided : Decided w xs
  decided = record {
    never = (λ never. fails_why w xs (never_fails never), why_never);
    computed = (passes_fillable, fillable_passes);
  }

pub columns_decide : ColumnsDecide
columns_decide w laws xs named = decided w laws xs named
