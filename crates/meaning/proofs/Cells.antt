-- What is known of a table at a column, and the number that the filling has there.
use Rattle.std.proofs.Common.{◌≡◌, ℕ, ◌+◌, ◌*◌, ◌<◌, ◌≤◌, true, ◌⊎◌, List, sym, ap, ◌∙◌, inl, inr, arith}
use Rattle.std.proofs.lemmas.Bool.{cases_Bool}
use Rattle.links.specs.Chains.{joined, lowest_joined}
use Rattle.links.specs.Lists.{Member}
use Rattle.links.proofs.Reach.{joined_finds, joined_self, joined_through, joined_turn}
use Rattle.links.proofs.Roots.{lowest_back as joined_back, lowest_same as joined_same}
use Rattle.arrangement.specs.Meaning.{lowest, same}
use Rattle.arrangement.specs.Lowest.{lowest_back, lowest-le, lowest_same}
use Rattle.statement.specs.declared.Statement.{Statement}
use Rattle.meaning.specs.declared.column.Column.{Column}
use Rattle.meaning.specs.Answers.{cell, known, or_else, place}
use Rattle.meaning.specs.Columns.{AlikeAt, ClashAt, links_at, marks_at}
use Rattle.meaning.specs.Fillings.{Named, Orderly, Setting}
use Rattle.meaning.proofs.Known.{Marked as MarkedIn, Unmarked as UnmarkedIn, known_cases}
use Rattle.meaning.proofs.Sound.{marks_named}

module _ (w : Setting) (xs : List Statement) (k : Column) where
  -- a chain at the column joins the table to a mark; or to none
  abbrev pub Marked : ℕ → Type 0
  Marked t = MarkedIn w.readings (links_at w xs k) (marks_at w xs k) t

  abbrev pub Unmarked : ℕ → Type 0
  Unmarked t = UnmarkedIn w.readings (links_at w xs k) (marks_at w xs k) t

  pub known_at : (t : ℕ) → Marked t ⊎ Unmarked t
  known_at t = known_cases w.readings (links_at w xs k) (marks_at w xs k) t

  -- the number of a table that nothing is known of
  abbrev fresh : ℕ → ℕ → ℕ
  fresh tables t = w.readings.size + place w k * tables + lowest_joined (links_at w xs k) t

  cell_marked : (tables t : ℕ) (r : Marked t) → cell w tables xs k t ≡ lowest w.readings r.mark.1
  unfolding cell known
  cell_marked tables t r = ap (λ o. or_else o (fresh tables t)) r.is

  cell_unmarked : (tables t : ℕ) → Unmarked t → cell w tables xs k t ≡ fresh tables t
  unfolding cell known
  cell_unmarked tables t r = ap (λ o. or_else o (fresh tables t)) r.is

module _ (w : Setting) (laws : Orderly w) (xs : List Statement) (named : Named w xs) (k : Column) where
  -- a number below the count of readings is known, and any other is not
  pub cell_known : (tables t v : ℕ) → v < w.readings.size → cell w tables xs k t ≡ lowest w.readings v → Marked w xs k t
  cell_known tables t v l e =
      elim (known_at w xs k t) [
        | inl r ↦ r
        | inr r ↦ absurd (omega (arith, lowest-le w.readings laws.readings v, cell_unmarked w xs k tables t r, e))
      ]

  -- equal numbers make tables alike
  pub cell_alike : (tables a b : ℕ) → cell w tables xs k a ≡ cell w tables xs k b → AlikeAt w xs (a, b) k
  cell_alike tables a b h = go (known_at w xs k a) (known_at w xs k b)
    where
      law : (v : ℕ) → lowest w.readings v ≤ v
      law = lowest-le w.readings laws.readings

      go : Marked w xs k a ⊎ Unmarked w xs k a → Marked w xs k b ⊎ Unmarked w xs k b → AlikeAt w xs (a, b) k
      go (inl p) (inl q) =
          let e = sym (cell_marked w xs k tables a p) ∙ h ∙ cell_marked w xs k tables b q in
          inr (record {
            p = p.mark;
            q = q.mark;
            marked_p = p.among;
            marked_q = q.among;
            chain_a = (joined_finds (links_at w xs k) a p.mark.0).0 p.chain;
            chain_b = (joined_finds (links_at w xs k) b q.mark.0).0 q.chain;
            alike = lowest_back w.readings laws.readings p.mark.1 q.mark.1
                (marks_named w xs named k p.mark p.among) (marks_named w xs named k q.mark q.among) e;
          })
      go (inl p) (inr q) =
          absurd (omega (
            arith,
            law p.mark.1,
            marks_named w xs named k p.mark p.among,
            cell_marked w xs k tables a p,
            cell_unmarked w xs k tables b q,
            h,
          ))
      go (inr p) (inl q) =
          absurd (omega (
            arith,
            law q.mark.1,
            marks_named w xs named k q.mark q.among,
            cell_unmarked w xs k tables a p,
            cell_marked w xs k tables b q,
            h,
          ))
      go (inr p) (inr q) =
          let e : lowest_joined (links_at w xs k) a ≡ lowest_joined (links_at w xs k) b =
          omega (arith, cell_unmarked w xs k tables a p, cell_unmarked w xs k tables b q, h) in
          inl ((joined_finds (links_at w xs k) a b).0 (joined_back (links_at w xs k) a b e))

  -- Where there is no clash, what is known does not depend on the mark that was found first.
  module _ (calm : ClashAt w xs k → ⊥) where
    marks_agree : (p q : ℕ × ℕ) → Member p (marks_at w xs k) → Member q (marks_at w xs k)
        → joined (links_at w xs k) p.0 q.0 ≡ true → same w.readings p.1 q.1 ≡ true
    marks_agree p q m n j =
        elim (cases_Bool (same w.readings p.1 q.1)) [
          | inl e ↦ e
          | inr e ↦ absurd (calm (record {
            p = p;
            q = q;
            marked_p = m;
            marked_q = n;
            chain = (joined_finds (links_at w xs k) p.0 q.0).0 j;
            unlike = e;
          }))
        ]

    pub mark_cell : (tables : ℕ) (p : ℕ × ℕ) → Member p (marks_at w xs k) → cell w tables xs k p.0 ≡ lowest w.readings p.1
    mark_cell tables p m =
        elim (known_at w xs k p.0) [
          | inl r ↦
              cell_marked w xs k tables p.0 r
              ∙ sym (lowest_same w.readings laws.readings p.1 r.mark.1 (marks_agree p r.mark m r.among r.chain))
          | inr r ↦ absurd (r.never p m (joined_self (links_at w xs k) p.0))
        ]

    pub joined_cell : (tables a b : ℕ) → joined (links_at w xs k) a b ≡ true → cell w tables xs k a ≡ cell w tables xs k b
    joined_cell tables a b h = go (known_at w xs k a) (known_at w xs k b)
      where
        back : joined (links_at w xs k) b a ≡ true
        back = joined_turn (links_at w xs k) a b h

        go : Marked w xs k a ⊎ Unmarked w xs k a → Marked w xs k b ⊎ Unmarked w xs k b → cell w tables xs k a ≡ cell w tables xs k b
        go (inl p) (inl q) =
            let L = links_at w xs k in
            let j = joined_through L p.mark.0 a q.mark.0 (joined_turn L a p.mark.0 p.chain) (joined_through L a b q.mark.0 h q.chain) in
            cell_marked w xs k tables a p
            ∙ lowest_same w.readings laws.readings p.mark.1 q.mark.1 (marks_agree p.mark q.mark p.among q.among j)
            ∙ sym (cell_marked w xs k tables b q)
        go (inl p) (inr q) = absurd (q.never p.mark p.among (joined_through (links_at w xs k) b a p.mark.0 back p.chain))
        go (inr p) (inl q) = absurd (p.never q.mark q.among (joined_through (links_at w xs k) a b q.mark.0 h q.chain))
        go (inr p) (inr q) =
            cell_unmarked w xs k tables a p
            ∙ ap (λ n. w.readings.size + place w k * tables + n) (joined_same (links_at w xs k) a b h)
            ∙ sym (cell_unmarked w xs k tables b q)
