-- Which columns there are.
use Rattle.std.proofs.Common.{◌≡◌, ℕ, zero, suc, ◌<◌, Bool, true, false, cond, eqb, ◌⊎◌, ◌∷◌, refl, ap, subst, inl, inr, arith}
use Rattle.std.proofs.lemmas.Bool.{cases_lt, eqb-false, eqb-true}
use Rattle.links.specs.Lists.{Member}
use Rattle.arrangement.specs.Meaning.{Meaning, lowest}
use Rattle.meaning.specs.declared.column.Column.{Column}
use Rattle.meaning.specs.declared.column.Column.TheVariants.{Elsewhere}
use Rattle.meaning.specs.Columns.{at, columns, columns_below}
use Rattle.meaning.specs.Fillings.{Setting}

module _ (m : Meaning) where
  below_elsewhere : (n : ℕ) → Member Elsewhere (columns_below m n)
  below_elsewhere zero = inl refl
  below_elsewhere (suc n) =
      let ih = below_elsewhere n in
      elim (eqb (lowest m n) n) as (λ b. Member Elsewhere (cond b (at n ∷ columns_below m n) (columns_below m n))) [
        | true ↦ inr ih
        | false ↦ ih
      ]

  below_at : (n c : ℕ) → c < n → lowest m c ≡ c → Member (at c) (columns_below m n)
  below_at zero c l h = absurd (omega arith)
  below_at (suc n) c l h = go (below_at n c) (eqb (lowest m n) n) refl
    where
      go : (c < n → lowest m c ≡ c → Member (at c) (columns_below m n))
          → (b : Bool) → eqb (lowest m n) n ≡ b → Member (at c) (cond b (at n ∷ columns_below m n) (columns_below m n))
      go ih true e =
          elim (cases_lt c n) [
            | inl k ↦ inr (ih k h)
            | inr k ↦ let q : n ≡ c = omega arith in inl (ap at q)
          ]
      go ih false e =
          elim (cases_lt c n) [
            | inl k ↦ ih k h
            | inr k ↦
                let q : c ≡ n = omega arith in
                absurd (eqb-false (lowest m n) n e (subst (λ x. lowest m x ≡ x) q h))
          ]

  -- a column is elsewhere, or a slot class by its lowest name
  abbrev pub IsColumn : ℕ → Column → Type 0
  IsColumn n k = (Elsewhere ≡ k) ⊎ ((c : ℕ) × (c < n) × (lowest m c ≡ c) × (at c ≡ k))

  column_more : (n : ℕ) (k : Column) → IsColumn n k → IsColumn (suc n) k
  column_more n k (inl e) = inl e
  column_more n k (inr r) = inr (r.0, omega arith, r.2, r.3)

  below_cases : (n : ℕ) (k : Column) → Member k (columns_below m n) → IsColumn n k
  below_cases zero k (inl e) = inl e
  below_cases zero k (inr none) = elim none [ ]
  below_cases (suc n) k mem = go (below_cases n k) (eqb (lowest m n) n) refl mem
    where
      go : (Member k (columns_below m n) → IsColumn n k)
          → (b : Bool) → eqb (lowest m n) n ≡ b → Member k (cond b (at n ∷ columns_below m n) (columns_below m n)) → IsColumn (suc n) k
      go ih true e (inl p) = inr (n, omega arith, eqb-true (lowest m n) n e, p)
      go ih true e (inr r) = column_more n k (ih r)
      go ih false e r = column_more n k (ih r)

module _ (w : Setting) where
  pub has_elsewhere : Member Elsewhere (columns w)
  unfolding columns
  has_elsewhere = below_elsewhere w.slots w.slots.size

  pub has_at : (c : ℕ) → c < w.slots.size → lowest w.slots c ≡ c → Member (at c) (columns w)
  unfolding columns
  has_at c l h = below_at w.slots w.slots.size c l h

  pub column_cases : (k : Column) → Member k (columns w) → IsColumn w.slots w.slots.size k
  unfolding columns
  column_cases k mem = below_cases w.slots w.slots.size k mem
