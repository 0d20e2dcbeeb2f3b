-- The tables that are marked at a column, one statement after another.
use Rattle.std.proofs.Common.{◌≡◌, ℕ, ◌+◌, ◌<◌, Bool, true, false, ◌||◌, eqb, List, [], ◌∷◌, length, map, get_or, take, Some, None, Option, sym, refl, ap, ap₂, ◌∙◌}
use Rattle.std.proofs.Math.Bool.{or-false}
use Rattle.std.specs.List.{list_any}
use Rattle.decision.proofs.Runs.{any_more}
use Rattle.links.specs.Lists.{present}
use Rattle.meaning.specs.declared.column.Column.{Column}
use Rattle.meaning.specs.Answers.{bears}
use Rattle.meaning.specs.Columns.{mark_at, marks_at}
use Rattle.meaning.specs.Fillings.{Setting}
use Rattle.statement.specs.declared.Statement.{Statement}

bears_more : (t : ℕ) (o : Option (ℕ × ℕ)) (es : List (Option (ℕ × ℕ)))
    → bears (present (o ∷ es)) t ≡ (bears (present (o ∷ [])) t || bears (present es) t)
bears_more t None es = refl
bears_more t (Some p) es = go (eqb p.0 t)
  where
    go : (b : Bool) → (b || bears (present es) t) ≡ ((b || false) || bears (present es) t)
    go true = refl
    go false = refl

-- a table is marked where one of the statements marks it
module _ (w : Setting) (k : Column) (t : ℕ) where
  pub bears_any : (xs : List Statement) → list_any (λ x. bears (present (mark_at w k x ∷ [])) t) xs ≡ bears (marks_at w xs k) t
  unfolding marks_at
  bears_any [] = refl
  bears_any (x ∷ xs) =
      ap (λ b. bears (present (mark_at w k x ∷ [])) t || b) (bears_any xs)
      ∙ sym (bears_more t (mark_at w k x) (map (mark_at w k) xs))

  -- one statement more
  pub noted_more : (before after : Bool) (xs : List Statement) (i : ℕ) (d : Statement) → i < length xs
      → after ≡ (before || bears (present (mark_at w k (get_or xs i d) ∷ [])) t)
      → before ≡ list_any (λ x. bears (present (mark_at w k x ∷ [])) t) (take i xs)
      → after ≡ list_any (λ x. bears (present (mark_at w k x ∷ [])) t) (take (i + 1) xs)
  noted_more before after xs i d l noted is =
      let p : Statement → Bool = λ x. bears (present (mark_at w k x ∷ [])) t in
      noted ∙ ap₂ (λ a b. a || b) is (sym (or-false (p (get_or xs i d)))) ∙ any_more p false xs i d l
