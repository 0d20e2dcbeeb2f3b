-- What one more mark does to the readings of groups, and to whether they clash.
use Rattle.std.proofs.Common.{◌≡◌, ℕ, ◌<◌, Bool, true, false, cond, not, ◌||◌, eqb, ◌≢◌, ◌⊎◌, List, [], ◌∷◌, ◌++◌, length, get_or, set, replicate, Some, None, Option, sym, refl, ap, ◌∙◌, subst, inl, inr, arith}
use Rattle.std.proofs.lemmas.List.{get_or_default, get_or_past, get_or-replicate, get_or-set_other, get_or-set_same, length-replicate}
use Rattle.std.proofs.lemmas.Bool.{both_ways, cases_Bool, cases_eq, cases_lt, eqb-false, false≢true, ne_eqb, not-true, or_cases, or_left, or_right}
use Rattle.links.specs.Chains.{joined, lowest_joined}
use Rattle.links.specs.Groups.{Roots, root_of}
use Rattle.links.specs.Lists.{Member}
use Rattle.links.proofs.Lists.{member_cases, member_left, member_right}
use Rattle.links.proofs.Reach.{joined_finds, joined_self, joined_through, joined_turn}
use Rattle.links.proofs.Roots.{lowest_back as joined_back, lowest-le as joined-le, lowest_same as joined_same}
use Rattle.arrangement.specs.Meaning.{Lawful, Meaning, lowest, same}
use Rattle.arrangement.specs.Laws.{same_answer}
use Rattle.arrangement.specs.Lowest.{lowest_back, lowest_same}
use Rattle.meaning.specs.Answers.{first_that, known_by, reading_in}
use Rattle.meaning.specs.Columns.{Clash}
use Rattle.meaning.proofs.Known.{Marked, Unmarked, known_cases}
use Rattle.meaning.proofs.Lists.{none_some}
use Rattle.column.specs.Sights.{SeenBy, differs, first_mark, mark_of, marked_clash, marked_marks}

-- the first of a longer list
module _ {X : Type 0} (p : X → Bool) where
  first_kept : (xs ys : List X) (x : X) → first_that p xs ≡ Some x → first_that p (xs ++ ys) ≡ Some x
  first_kept [] ys x e = absurd (none_some e)
  first_kept (z ∷ zs) ys x e = go (p z) (first_kept zs ys x) e
    where
      go : (b : Bool) → (first_that p zs ≡ Some x → first_that p (zs ++ ys) ≡ Some x)
          → cond b (Some z) (first_that p zs) ≡ Some x → cond b (Some z) (first_that p (zs ++ ys)) ≡ Some x
      go true ih e = e
      go false ih e = ih e

  first_later : (xs ys : List X) → first_that p xs ≡ None → first_that p (xs ++ ys) ≡ first_that p ys
  first_later [] ys e = refl
  first_later (z ∷ zs) ys e = go (p z) (first_later zs ys) e
    where
      go : (b : Bool) → (first_that p zs ≡ None → first_that p (zs ++ ys) ≡ first_that p ys)
          → cond b (Some z) (first_that p zs) ≡ None → cond b (Some z) (first_that p (zs ++ ys)) ≡ first_that p ys
      go true ih e = absurd (none_some (sym e))
      go false ih e = ih e

module _ (m : Meaning) (L M : List (ℕ × ℕ)) where
  -- joined tables have one reading
  known_joined : (a b : ℕ) → joined L a b ≡ true → known_by m L M a ≡ known_by m L M b
  known_joined a b j =
      let same_test : (x : ℕ) → joined L a x ≡ joined L b x = λ x.
      same_answer (joined L a x) (joined L b x)
      (λ h. joined_through L b a x (joined_turn L a b j) h) (λ h. joined_through L a b x j h) in
      λ i. reading_in m (first_that (λ p. same_test p.0 i) M)

  -- one more mark
  module _ (t v : ℕ) where
    abbrev N : List (ℕ × ℕ)
    N = M ++ (t, v) ∷ []

    some_stays : (s : ℕ) → Marked m L M s → known_by m L N s ≡ known_by m L M s
    some_stays s r = go (first_that (λ p. joined L s p.0) M) refl
      where
        go : (o : Option (ℕ × ℕ)) → first_that (λ p. joined L s p.0) M ≡ o → known_by m L N s ≡ known_by m L M s
        go None e = absurd (none_some (sym (ap (reading_in m) e) ∙ r.is))
        go (Some p) e = ap (reading_in m) (first_kept (λ p. joined L s p.0) M ((t, v) ∷ []) p e ∙ sym e)

    none_first : (s : ℕ) → Unmarked m L M s → first_that (λ p. joined L s p.0) M ≡ None
    none_first s r = go (first_that (λ p. joined L s p.0) M) refl
      where
        go : (o : Option (ℕ × ℕ)) → first_that (λ p. joined L s p.0) M ≡ o → o ≡ None
        go None e = refl
        go (Some p) e = absurd (none_some (sym (sym (ap (reading_in m) e) ∙ r.is)))

    none_more : (s : ℕ) → Unmarked m L M s → known_by m L N s ≡ reading_in m (cond (joined L s t) (Some (t, v)) None)
    none_more s r = ap (reading_in m) (first_later (λ p. joined L s p.0) M ((t, v) ∷ []) (none_first s r))

module _ (m : Meaning) (law : Lawful m) (L M : List (ℕ × ℕ)) (root : List ℕ) (stored : List (Option ℕ)) (clash : Bool)
    (seen : SeenBy m L M root stored clash) (long : length root ≡ 128) (wide : length stored ≡ 128) where
  pub root_is : (t : ℕ) → t < 128 → root_of root t ≡ lowest_joined L t
  root_is t l = get_or_default root t t 0 (omega arith) ∙ seen.roots.low t l

  -- what is stored for a group is its reading
  pub mark_is : (t : ℕ) → t < 128 → mark_of root stored t ≡ known_by m L M t
  mark_is t l = ap (λ (r : ℕ). get_or stored r None) (root_is t l) ∙ seen.known t l

  -- One more mark, of table t with reading v.
  module _ (t v : ℕ) (lt : t < 128) (lv : v < m.size) where
    abbrev c : ℕ
    c = lowest m v

    abbrev More : List (ℕ × ℕ)
    More = M ++ (t, v) ∷ []

    abbrev after : List (Option ℕ)
    after = marked_marks root stored t c

    abbrev new_clash : Bool
    new_clash = marked_clash root stored t c

    old_in : (p : ℕ × ℕ) → Member p M → Member p More
    old_in p k = member_left p M ((t, v) ∷ []) k

    new_in : Member (t, v) More
    new_in = member_right (t, v) M ((t, v) ∷ []) (inl refl)

    more_cases : (p : ℕ × ℕ) → Member p More → Member p M ⊎ ((t, v) ≡ p)
    more_cases p k = go (member_cases p M ((t, v) ∷ []) k)
      where
        go : Member p M ⊎ Member p ((t, v) ∷ []) → Member p M ⊎ ((t, v) ≡ p)
        go (inl j) = inl j
        go (inr (inl e)) = inr e
        go (inr (inr j)) = elim j [ ]

    named_more : (p : ℕ × ℕ) → Member p More → (p.0 < 128) × (p.1 < m.size)
    named_more p k =
        elim (more_cases p k) [
          | inl j ↦ seen.named p j
          | inr e ↦ subst (λ (p : ℕ × ℕ). (p.0 < 128) × (p.1 < m.size)) e (lt, lv)
        ]

    after_is : after ≡ set stored (lowest_joined L t) (first_mark (known_by m L M t) c)
    after_is =
        ap (λ (r : ℕ). set stored r (first_mark (mark_of root stored t) c)) (root_is t lt)
        ∙ ap (λ (o : Option ℕ). set stored (lowest_joined L t) (first_mark o c)) (mark_is t lt)

    -- the group of t keeps its reading, or gets the new one
    known_itself : known_by m L More t ≡ first_mark (known_by m L M t) c
    known_itself =
        elim (known_cases m L M t) [
          | inl r ↦ some_stays m L M t v t r ∙ r.is ∙ sym (ap (λ (o : Option ℕ). first_mark o c) r.is)
          | inr r ↦
              none_more m L M t v t r ∙ ap (λ b. reading_in m (cond b (Some (t, v)) None)) (joined_self L t)
              ∙ sym (ap (λ (o : Option ℕ). first_mark o c) r.is)
        ]

    known_apart : (s : ℕ) → joined L s t ≡ false → known_by m L More s ≡ known_by m L M s
    known_apart s j =
        elim (known_cases m L M s) [
          | inl q ↦ some_stays m L M t v s q
          | inr q ↦ none_more m L M t v s q ∙ ap (λ b. reading_in m (cond b (Some (t, v)) None)) j ∙ sym q.is
        ]

    known_after : (s : ℕ) → s < 128 → get_or after (lowest_joined L s) None ≡ known_by m L More s
    known_after s ls = ap (λ (l : List (Option ℕ)). get_or l (lowest_joined L s) None) after_is ∙ go (cases_Bool (joined L s t))
      where
        here : Option ℕ
        here = first_mark (known_by m L M t) c

        go : (joined L s t ≡ true) ⊎ (joined L s t ≡ false) → get_or (set stored (lowest_joined L t) here) (lowest_joined L s) None ≡ known_by m L More s
        go (inl j) =
            ap (λ (i : ℕ). get_or (set stored (lowest_joined L t) here) i None) (joined_same L s t j)
            ∙ get_or-set_same stored (lowest_joined L t) here None (omega (arith, joined-le L t))
            ∙ sym (known_joined m L More s t j ∙ known_itself)
        go (inr j) =
            let ne : lowest_joined L s ≢ lowest_joined L t = λ e. both_ways (joined L s t) j (joined_back L s t e) in
            get_or-set_other stored (lowest_joined L t) (lowest_joined L s) here None ne
            ∙ seen.known s ls ∙ sym (known_apart s j)

    -- Clashes.

    clash_is : new_clash ≡ differs (known_by m L M t) c
    clash_is = ap (λ (o : Option ℕ). differs o c) (mark_is t lt)

    clash_old : Clash m L M → Clash m L More
    clash_old x = record {
      p = x.p;
      q = x.q;
      marked_p = old_in x.p x.marked_p;
      marked_q = old_in x.q x.marked_q;
      chain = x.chain;
      unlike = x.unlike;
    }

    new_clash_has : new_clash ≡ true → Clash m L More
    new_clash_has h =
        elim (known_cases m L M t) [
          | inl r ↦
              let unequal : not (eqb (lowest m r.mark.1) c) ≡ true =
              sym (ap (λ (o : Option ℕ). differs o c) r.is) ∙ sym clash_is ∙ h in
              record {
                p = r.mark;
                q = (t, v);
                marked_p = old_in r.mark r.among;
                marked_q = new_in;
                chain = (joined_finds L r.mark.0 t).0 (joined_turn L t r.mark.0 r.chain);
                unlike = elim (cases_Bool (same m r.mark.1 v)) [
                  | inl e ↦
                      absurd (eqb-false (lowest m r.mark.1) c (not-true (eqb (lowest m r.mark.1) c) unequal) (lowest_same m law r.mark.1 v e))
                  | inr e ↦ e
                ];
              }
          | inr r ↦ absurd (false≢true (sym (ap (λ (o : Option ℕ). differs o c) r.is) ∙ sym clash_is ∙ h))
        ]

    -- a mark that the new one clashes with makes the flag rise, or clashes with the group's own
    met : (p : ℕ × ℕ) → Member p M → joined L p.0 t ≡ true → same m p.1 v ≡ false → (clash || new_clash) ≡ true
    met p k j unlike =
        elim (known_cases m L M t) [
          | inr r ↦ absurd (r.never p k (joined_turn L p.0 t j))
          | inl r ↦
              let z = r.mark in
              elim (cases_eq (lowest m z.1) c) [
                | inr ne ↦
                    or_right clash new_clash
                    (clash_is ∙ ap (λ (o : Option ℕ). differs o c) r.is ∙ ap not (ne_eqb (lowest m z.1) c ne))
                | inl e ↦
                    let z-v = lowest_back m law z.1 v (seen.named z r.among).1 lv e in
                    or_left clash new_clash (seen.clashes.1 (record {
                      p = p;
                      q = z;
                      marked_p = k;
                      marked_q = r.among;
                      chain = (joined_finds L p.0 z.0).0 (joined_through L p.0 t z.0 j r.chain);
                      unlike = elim (cases_Bool (same m p.1 z.1)) [
                        | inl s ↦ absurd (both_ways (same m p.1 v) unlike (law.through p.1 z.1 v s z-v))
                        | inr s ↦ s
                      ];
                    }))
              ]
        ]

    same_back : (i j : ℕ) → same m i j ≡ false → same m j i ≡ false
    same_back i j h = elim (cases_Bool (same m j i)) [ inl e ↦ absurd (both_ways (same m i j) h (law.back j i e)) | inr e ↦ e ]

    clash_more : Clash m L More → (clash || new_clash) ≡ true
    clash_more x = go (more_cases x.p x.marked_p) (more_cases x.q x.marked_q)
      where
        j : joined L x.p.0 x.q.0 ≡ true
        j = (joined_finds L x.p.0 x.q.0).1 x.chain

        go : Member x.p M ⊎ ((t, v) ≡ x.p) → Member x.q M ⊎ ((t, v) ≡ x.q) → (clash || new_clash) ≡ true
        go (inl k) (inl l) =
            or_left clash new_clash (seen.clashes.1 (record { p = x.p; q = x.q; marked_p = k; marked_q = l; chain = x.chain; unlike = x.unlike }))
        go (inl k) (inr e) =
            met x.p k (subst (λ (q : ℕ × ℕ). joined L x.p.0 q.0 ≡ true) (sym e) j)
            (subst (λ (q : ℕ × ℕ). same m x.p.1 q.1 ≡ false) (sym e) x.unlike)
        go (inr e) (inl l) =
            met x.q l (joined_turn L t x.q.0 (subst (λ (p : ℕ × ℕ). joined L p.0 x.q.0 ≡ true) (sym e) j))
            (same_back v x.q.1 (subst (λ (p : ℕ × ℕ). same m p.1 x.q.1 ≡ false) (sym e) x.unlike))
        go (inr e) (inr d) =
            let s : same m x.p.1 x.q.1 ≡ true =
            subst (λ (q : ℕ × ℕ). same m x.p.1 q.1 ≡ true) d (subst (λ (p : ℕ × ℕ). same m p.1 v ≡ true) e (law.itself v lv)) in
            absurd (both_ways (same m x.p.1 x.q.1) x.unlike s)

    pub seen_more : SeenBy m L More root after (clash || new_clash)
    seen_more = record {
      roots = seen.roots;
      named = named_more;
      known = known_after;
      clashes = (
        (λ h. elim (or_cases clash new_clash h) [ inl e ↦ clash_old (seen.clashes.0 e) | inr e ↦ new_clash_has e ]),
        clash_more,
      );
    }

-- with no marks nothing is known, and nothing clashes
pub seen_none : (m : Meaning) (L : List (ℕ × ℕ)) (root : List ℕ) → Roots L root → SeenBy m L [] root (replicate 128 None) false
seen_none m L root roots = record {
  roots = roots;
  named = λ p k. elim k [ ];
  known = λ t l. blank (lowest_joined L t);
  clashes = ((λ h. absurd (false≢true h)), (λ x. absurd x.marked_p));
}
  where
    blank : (r : ℕ) → get_or {A = Option ℕ} (replicate 128 None) r None ≡ None
    blank r =
        elim (cases_lt r 128) [
          | inl l ↦ get_or-replicate 128 r None None l
          | inr l ↦ get_or_past (replicate 128 None) r None (simp length-replicate (omega arith))
        ]
