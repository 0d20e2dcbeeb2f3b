-- What is told is what every filling that fits says.
use Rattle.std.proofs.Common.{◌≡◌, ℕ, ◌<◌, true, eqb, List, Some, None, Option, sym, refl, ap, ◌∙◌, subst, inl, inr, arith}
use Rattle.std.proofs.lemmas.Bool.{eq-eqb}
use Rattle.links.specs.Chains.{Nearest, joined}
use Rattle.links.specs.Lists.{Member}
use Rattle.links.proofs.Fewest.{fewest_some, nearest}
use Rattle.links.proofs.Lists.{any_from}
use Rattle.links.proofs.Reach.{joined_finds}
use Rattle.arrangement.specs.Meaning.{lowest, same}
use Rattle.arrangement.specs.Lowest.{lowest_back, lowest_in, lowest-le, lowest_same}
use Rattle.statement.specs.declared.Reading.{Reading}
use Rattle.statement.specs.declared.Statement.{Statement}
use Rattle.meaning.specs.declared.column.Column.{Column}
use Rattle.meaning.specs.Answers.{bears, cell, column_of, distance, filled, known, reading_and_distance, told}
use Rattle.meaning.specs.Columns.{links_at, marks_at}
use Rattle.meaning.specs.Fillings.{Fillable, Named, Orderly, Setting}
use Rattle.meaning.specs.Theorems.{Follows, Tells, ToldFollows}
use Rattle.meaning.proofs.Cells.{Marked, Unmarked, cell_known, known_at}
use Rattle.meaning.proofs.ClassNumbers.{numbered_slot}
use Rattle.meaning.proofs.Complete.{filled_fits}
use Rattle.meaning.proofs.Deciding.{fillable_passes}
use Rattle.meaning.proofs.Lists.{none_some, some_inj}
use Rattle.meaning.proofs.Sound.{Shows, chain_holds, marks_hold, marks_named, shows_at}

module _ (w : Setting) (laws : Orderly w) (xs : List Statement) (named : Named w xs) (some : Fillable w xs)
    (a i : ℕ) (inside : i < w.slots.size) where
  abbrev k : Column
  k = column_of w i

  abbrev L : List (ℕ × ℕ)
  L = links_at w xs (column_of w i)

  abbrev M : List (ℕ × ℕ)
  M = marks_at w xs (column_of w i)

  -- the reading of a mark that the table is joined to follows
  mark_follows : (p : ℕ × ℕ) → Member p M → joined L a p.0 ≡ true → Follows w xs a i p.1
  mark_follows p m j f fit =
      let S = w.slots in
      let c = lowest S i in
      let l : c < S.size = omega (arith, lowest-le S laws.slots i) in
      let e = (fit.slots c i l inside).1 (lowest_in S laws.slots i inside) in
      let shows : Shows w f (column_of w i) (f.slot i) = shows_at w laws.slots xs f fit c (f.slot i) l e in
      chain_holds w xs named f fit (column_of w i) (f.slot i) shows a p.0 ((joined_finds L a p.0).0 j)
      ∙ marks_hold w xs named f fit (column_of w i) (f.slot i) shows p m

  -- what follows is the reading of a mark that the table is joined to
  follows_marked : (v : ℕ) → v < w.readings.size → Follows w xs a i v → Marked w xs k a
  unfolding filled
  follows_marked v l h =
      let e = h (filled w 0 xs) (filled_fits w laws xs named (fillable_passes w laws xs named some) 0) in
      cell_known w laws xs named k 0 a v l
      (subst (λ k. cell w 0 xs k a ≡ lowest w.readings v) (numbered_slot w laws.slots i inside) e)

  -- readings that follow are the same
  follow_same : (u v : ℕ) → u < w.readings.size → v < w.readings.size → Follows w xs a i u → Follows w xs a i v
      → same w.readings u v ≡ true
  follow_same u v l n g h = (some.1.readings u v l n).0 (sym (g some.0 some.1) ∙ h some.0 some.1)

  same_follows : (u v : ℕ) → u < w.readings.size → v < w.readings.size → same w.readings u v ≡ true
      → Follows w xs a i u → Follows w xs a i v
  same_follows u v l n s g f fit = g f fit ∙ (fit.readings u v l n).1 s

  -- where a chain leads to a mark, the fewest links to a marked table are some number
  mark_distance : (r : Marked w xs k a) → (d : ℕ) × (distance w xs k a ≡ Some d)
  unfolding distance
  mark_distance r =
      let chain = (joined_finds L a r.mark.0).0 r.chain in
      let borne = any_from (λ (p : ℕ × ℕ). eqb p.0 r.mark.0) M r.mark r.among (eq-eqb r.mark.0 r.mark.0 refl) in
      let q = fewest_some L (bears M) a r.mark.0 chain.0 chain.1 borne in
      (q.0, q.1)

  distance_nearest : Nearest L (bears M) a (distance w xs k a)
  unfolding distance
  distance_nearest = nearest L (bears M) a

  tells_none : (answer : Option (Reading × ℕ)) → answer ≡ None → Unmarked w xs k a → Tells w xs a i answer
  tells_none answer e r = record {
    reading = λ v l. (
      (λ n. absurd (none_some (sym e ∙ n.1))),
      (λ h. let q = follows_marked v l h in absurd (r.never q.mark q.among q.chain)),
    );
    free = ((λ _ v l h. let q = follows_marked v l h in r.never q.mark q.among q.chain), λ _. e);
    nearest = λ v d q. absurd (none_some (sym e ∙ q));
  }

  tells_some : (answer : Option (Reading × ℕ)) (d : ℕ) (r : Marked w xs k a)
      → answer ≡ Some (record { 0 = lowest w.readings r.mark.1 }, d) → distance w xs k a ≡ Some d → Tells w xs a i answer
  tells_some answer d r e far =
      let m = w.readings in
      let u = r.mark.1 in
      let l = marks_named w xs named k r.mark r.among in
      let follows = mark_follows r.mark r.among r.chain in
      record {
        reading = λ v n. (
          (λ h.
              let one : lowest m u ≡ lowest m v = ap (λ (r : Reading × ℕ). r.0.0) (some_inj (sym e ∙ h.1)) in
              same_follows u v l n (lowest_back m laws.readings u v l n one) follows),
          (λ h. (d, e ∙ ap (λ (x : ℕ). Some (record { 0 = x }, d)) (lowest_same m laws.readings u v (follow_same u v l n follows h)))),
        );
        free = (
          (λ h. absurd (none_some (sym h ∙ e))),
          (λ h. absurd (h u l follows)),
        );
        nearest = λ v n h.
            let one : d ≡ n = ap (λ (r : Reading × ℕ). r.1) (some_inj (sym e ∙ h)) in
            subst (λ (n : ℕ). Nearest L (bears M) a (Some n)) one (subst (Nearest L (bears M) a) far distance_nearest);
      }

  pub tells : Tells w xs a i (told w xs a i)
  unfolding told known
  tells =
      elim (known_at w xs k a) [
        | inl r ↦
            let d = mark_distance r in
            tells_some (told w xs a i) d.0 r
            (ap (λ o. reading_and_distance o (distance w xs k a)) r.is
            ∙ ap (reading_and_distance (Some (lowest w.readings r.mark.1))) d.1) d.1
        | inr r ↦ tells_none (told w xs a i) (ap (λ o. reading_and_distance o (distance w xs k a)) r.is) r
      ]

pub told_follows : ToldFollows
told_follows w laws xs named some a i inside = tells w laws xs named some a i inside
