-- What the sights of all columns decide.
use Rattle.std.proofs.Common.{◌≡◌, ℕ, ◌<◌, Bool, true, false, not, ◌&&◌, ◌⊎◌, List, [], ◌∷◌, ◌++◌, map, length, get_or, Some, None, Option, sym, refl, ap, ◌∙◌, subst, inl, inr, arith}
use Rattle.std.specs.List.{list_all}
use Rattle.std.proofs.lemmas.Bool.{and_from, and_left, and_parts, both_ways, cases_Bool, not_from_false}
use Rattle.links.specs.Lists.{Member, present}
use Rattle.links.proofs.Lists.{all_from, all_has}
use Rattle.arrangement.specs.Kept.{lawful}
use Rattle.arrangement.specs.Laws.{same_answer}
use Rattle.statement.specs.declared.Statement.{Statement}
use Rattle.meaning.specs.declared.column.Column.{Column}
use Rattle.meaning.specs.declared.column.Column.TheVariants.{Elsewhere}
use Rattle.meaning.specs.Columns.{alike_at, clash_at, columns, difference, differences, links_at, marks_at, parted, test}
use Rattle.meaning.specs.Fillings.{Orderly, Setting}
use Rattle.meaning.proofs.ColumnList.{column_cases, has_elsewhere}
use Rattle.column.specs.declared.sight.Sight.{Sight}
use Rattle.column.specs.Sights.{Readable, SeenAt, seem_alike}
use Rattle.column.proofs.Parts.{member_at}
use Rattle.column.proofs.Seeing.{alike_is, difference_below}
use Rattle.decision.specs.Looks.{AllSeen, Loud, is_borne_out, seem_parted}
use Rattle.decision.specs.Trials.{setting, tried}
use Rattle.decision.specs.declared.trial.Trial.{Trial}
use Rattle.decision.specs.declared.sights.Sights.{Sights}
use Rattle.decision.proofs.Looked.{clash_at_lem}
use Rattle.decision.proofs.Runs.{all_append, all_places}

pub loud_fails : (w : Setting) (xs : List Statement) → Loud w xs → false ≡ test w xs
unfolding test
loud_fails w xs l =
    elim (cases_Bool (list_all (λ k. not (clash_at w xs k)) (columns w))) [
      | inl h ↦
          absurd (both_ways (not (clash_at w xs l.column)) (ap not l.clash)
          (all_has (λ k. not (clash_at w xs k)) (columns w) l.column h l.among))
      | inr h ↦ sym (and_left (list_all (λ k. not (clash_at w xs k)) (columns w)) (list_all (parted w xs) (differences xs)) h)
    ]

module _ (w : Setting) (laws : Orderly w) (xs : List Statement) (s : Sights) (seen : AllSeen w xs s) where
  -- each column has its sight
  pub record SightOf (k : Column) : Type 0 where
    pub sight : Sight
    pub shows : SeenAt w xs k sight
    pub calm : sight.clash ≡ false
    pub stored : (sight ≡ s.elsewhere.now) ⊎ Member sight s.each.now

  sight_of : (k : Column) → Member k (columns w) → SightOf k
  sight_of k m =
      elim (column_cases w k m) [
        | inl e ↦ record {
          sight = s.elsewhere.now;
          shows = subst (λ k. SeenAt w xs k s.elsewhere.now) e seen.nowhere;
          calm = seen.calm;
          stored = inl refl;
        }
        | inr r ↦
            let c = r.0 in
            let inside : c < length s.each.now = omega (arith, laws.slots.small, s.long) in
            let v = get_or s.each.now c s.elsewhere.now in
            record {
              sight = v;
              shows = subst (λ k. SeenAt w xs k v) r.3 (seen.classes c r.1 r.2 s.elsewhere.now);
              calm = (seen.only c inside s.elsewhere.now).calm;
              stored = inr (member_at s.each.now c s.elsewhere.now inside);
            }
      ]

  -- nothing clashes
  quiet : list_all (λ k. not (clash_at w xs k)) (columns w) ≡ true
  quiet =
      all_from (λ k. not (clash_at w xs k)) (columns w) (λ k m.
      let r = sight_of k m in
      not_from_false (clash_at w xs k) (sym (clash_at_lem w laws.readings xs k r.sight r.shows) ∙ r.calm))

  pub quiet_test : list_all (parted w xs) (differences xs) ≡ test w xs
  unfolding test
  quiet_test = sym (ap (λ b. b && list_all (parted w xs) (differences xs)) quiet)

  module _ (p : ℕ × ℕ) (la : p.0 < 128) (lb : p.1 < 128) where
    abbrev seem : Sight → Bool
    seem v = seem_alike v p.0 p.1

    seem_is : (k : Column) (v : Sight) → SeenAt w xs k v → v.clash ≡ false → seem v ≡ alike_at w xs p k
    unfolding alike_at
    seem_is k v sees calm = alike_is w.readings laws.readings (links_at w xs k) (marks_at w xs k) v sees calm p.0 p.1 la lb

    all_alike : (seem s.elsewhere.now && list_all seem s.each.now) ≡ list_all (alike_at w xs p) (columns w)
    all_alike =
        same_answer (seem s.elsewhere.now && list_all seem s.each.now) (list_all (alike_at w xs p) (columns w))
        (λ h.
        let both = and_parts (seem s.elsewhere.now) (list_all seem s.each.now) h in
        all_from (alike_at w xs p) (columns w) (λ k m.
        let r = sight_of k m in
        sym (seem_is k r.sight r.shows r.calm)
        ∙ elim r.stored [
          | inl e ↦ ap seem e ∙ both.0
          | inr j ↦ all_has seem s.each.now r.sight both.1 j
        ]))
        (λ h.
        and_from (seem s.elsewhere.now) (list_all seem s.each.now)
        (seem_is Elsewhere s.elsewhere.now seen.nowhere seen.calm ∙ all_has (alike_at w xs p) (columns w) Elsewhere h (has_elsewhere w))
        (all_places seem s.each.now (λ i l d.
        let r = seen.only i l d in
        seem_is r.column (get_or s.each.now i d) r.seen r.calm ∙ all_has (alike_at w xs p) (columns w) r.column h r.among)))

    parted_is : seem_parted s p ≡ parted w xs p
    unfolding parted
    parted_is = ap not all_alike

  borne_is : (o : Option (ℕ × ℕ)) → ((p : ℕ × ℕ) → o ≡ Some p → (p.0 < 128) × (p.1 < 128)) → is_borne_out s o ≡ list_all (parted w xs) (present (o ∷ []))
  borne_is None below = refl
  borne_is (Some p) below =
      let l = below p refl in
      parted_is p l.0 l.1 ∙ sym (and_true (parted w xs p))
    where
      and_true : (b : Bool) → (b && true) ≡ b
      and_true true = refl
      and_true false = refl

  -- every difference of a readable list, as the sights tell it
  pub all_borne : (ys : List Statement) → Readable w ys → list_all (λ x. is_borne_out s (difference x)) ys ≡ list_all (parted w xs) (differences ys)
  unfolding differences
  all_borne [] readable = refl
  all_borne (y ∷ ys) readable =
      ap (λ b. b && list_all (λ x. is_borne_out s (difference x)) ys) (borne_is (difference y) (λ p e. difference_below w y (readable y (inl refl)) p e))
      ∙ ap (λ b. list_all (parted w xs) (present (difference y ∷ [])) && b) (all_borne ys (λ x m. readable x (inr m)))
      ∙ sym (all_append (parted w xs) (present (difference y ∷ [])) (present (map difference ys))) ∙ ap (list_all (parted w xs)) (one_more (difference y))
    where
      one_more : (o : Option (ℕ × ℕ)) → present (o ∷ []) ++ present (map difference ys) ≡ present (o ∷ map difference ys)
      one_more None = refl
      one_more (Some p) = refl

-- what the sights of a list bear out of it decides
pub borne_test : (t : Trial) (s : Sights) → AllSeen (setting t) (tried t) s
    → list_all (λ x. is_borne_out s (difference x)) (tried t) ≡ test (setting t) (tried t)
borne_test t s seen =
    let w = setting t in
    let laws : Orderly w = record { slots = lawful t.naming.now.slots; readings = lawful t.naming.now.readings } in
    all_borne w laws (tried t) s seen (tried t) t.readable ∙ quiet_test w laws (tried t) s seen
