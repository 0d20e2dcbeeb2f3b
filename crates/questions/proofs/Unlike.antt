-- At how many slots two tables can differ, from the columns at which they are not alike.
use Rattle.std.proofs.Common.{◌≡◌, ℕ, Bool, true, false, length, sym, ap, ◌∙◌}
use lib.Count.{ones}
use Rattle.std.proofs.lemmas.Bool.{cond-false, cond-true, not-false, not-true}
use Rattle.meaning.specs.declared.apart.Apart.{Apart}
use Rattle.meaning.specs.declared.apart.Apart.TheVariants.{NoLimit, Limit}
use Rattle.meaning.specs.declared.column.Column.TheVariants.{Elsewhere}
use Rattle.meaning.specs.Answers.{apart, bits_of, unlike_columns}
use Rattle.meaning.specs.Columns.{alike_at, columns}
use Rattle.standing.specs.declared.standing.Standing.{Standing}
use Rattle.questions.specs.Asked.{list_in, setting_in, unlike_at}
use Rattle.questions.proofs.Classes.{counted}

module _ (s : Standing) (a b : ℕ) where
  abbrev limit : Apart
  limit =
      let unlike = unlike_columns (setting_in s) (list_in s) (a, b) in
      Limit (bits_of unlike) (length unlike)

  abbrev alike_elsewhere : Bool
  alike_elsewhere = alike_at (setting_in s) (list_in s) (a, b) Elsewhere

  pub no_limit_is : unlike_at s a b Elsewhere ≡ true → NoLimit ≡ apart (setting_in s) (list_in s) a b
  unfolding apart
  no_limit_is h = sym (cond-false alike_elsewhere limit NoLimit (not-true alike_elsewhere h))

  pub limit_is : unlike_at s a b Elsewhere ≡ false → (set : ℕ) → set ≡ bits_of (unlike_columns (setting_in s) (list_in s) (a, b))
      → Limit set (ones set) ≡ apart (setting_in s) (list_in s) a b
  unfolding apart columns
  limit_is h set e =
      let m = (setting_in s).slots in
      ap (λ (n : ℕ). Limit n (ones n)) e
      ∙ ap (λ (n : ℕ). Limit (bits_of (unlike_columns (setting_in s) (list_in s) (a, b))) n) (counted m (unlike_at s a b) h m.size).many
      ∙ sym (cond-true alike_elsewhere limit NoLimit (not-false alike_elsewhere h))
