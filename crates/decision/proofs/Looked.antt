-- The columns that were looked at, and those that look as elsewhere.
use Rattle.std.proofs.Common.{◌≡◌, ℕ, ◌+◌, ◌<◌, ◌≤◌, Bool, true, false, cond, ltb, ◌≢◌, List, [], ◌∷◌, map, length, get_or, set, replicate, Some, None, Option, sym, refl, ap, ◌∙◌, subst, inl, inr, arith}
use Rattle.std.proofs.lemmas.List.{get_or-replicate, get_or-set_other, get_or-set_same}
use Rattle.std.proofs.lemmas.Bool.{both_ways, cases_Bool, cases_eq, cases_lt, cond-false, cond-true, eq-eqb, eqb-true, false≢true, le-ltb, lt-ltb}
use Rattle.links.specs.Lists.{Member, present}
use Rattle.links.proofs.Lists.{all_has, any_from, any_has}
use Rattle.arrangement.specs.Meaning.{Lawful, Meaning, lowest, same}
use Rattle.arrangement.specs.Kept.{lawful}
use Rattle.arrangement.specs.Stored.{lowest_of}
use Rattle.arrangement.specs.Lowest.{lowest-le, lowest_same, lowest_twice}
use Rattle.statement.specs.declared.Statement.{Statement}
use Rattle.statement.specs.declared.Statement.TheVariants.{W, R, E, D}
use Rattle.meaning.specs.declared.column.Column.{Column}
use Rattle.meaning.specs.declared.column.Column.TheVariants.{Elsewhere}
use Rattle.meaning.specs.Columns.{at, clash_at, here, link_at, links_at, mark_at, marks_at}
use Rattle.meaning.specs.Fillings.{Named, Setting, is_within, slot_of}
use Rattle.meaning.proofs.ColumnList.{has_at, has_elsewhere}
use Rattle.meaning.proofs.Lists.{none_some, some_inj}
use Rattle.meaning.proofs.Sound.{slot_named}
use Rattle.column.specs.declared.sight.Sight.{Sight}
use Rattle.column.specs.Sights.{Readable, Seen, SeenAt, is_readable}
use Rattle.column.proofs.Seeing.{clash_is, is_named_lem}
use Rattle.decision.specs.Looks.{Loud, OfColumn, is_named_in, leads}
use Rattle.decision.specs.Trials.{setting, tried}
use Rattle.decision.specs.declared.trial.Trial.{Trial}

present_same : {X Y : Type 0} (f g : X → Option Y) (xs : List X) → ((x : X) → Member x xs → f x ≡ g x) → present (map f xs) ≡ present (map g xs)
present_same f g [] h = refl
present_same {X} {Y} f g (x ∷ xs) h =
    ap (λ (o : Option Y). present (o ∷ map f xs)) (h x (inl refl)) ∙ more (present_same f g xs (λ y m. h y (inr m))) (g x)
  where
    more : present (map f xs) ≡ present (map g xs) → (o : Option Y) → present (o ∷ map f xs) ≡ present (o ∷ map g xs)
    more rest None = rest
    more rest (Some y) = ap (λ l. y ∷ l) rest

module _ (w : Setting) (law : Lawful w.slots) (xs : List Statement) (named : Named w xs) (c : ℕ) where
  abbrev m : Meaning
  m = w.slots

  -- a class that a statement names is a column
  pub named_class : is_named_in m xs c ≡ true → (c < m.size) × (lowest m c ≡ c)
  named_class h =
      let r = any_has (λ x. leads m c (slot_of x)) xs h in
      go (slot_of r.0) refl (slot_named w r.0 (named r.0 r.1)) r.2
    where
      go : (o : Option ℕ) → (p : o ≡ o) → ((i : ℕ) → o ≡ Some i → i < m.size) → leads m c o ≡ true → (c < m.size) × (lowest m c ≡ c)
      go None _ l e = absurd (false≢true e)
      go (Some i) _ l e =
          let q = eqb-true (lowest m i) c e in
          (omega (arith, lowest-le m law i, l i refl, q), ap (lowest m) (sym q) ∙ lowest_twice m law i (l i refl) ∙ q)

  -- a class that no statement names looks as elsewhere
  module _ (low : lowest m c ≡ c) (absent : is_named_in m xs c ≡ false) where
    not_here : (x : Statement) → Member x xs → (i : ℕ) → slot_of x ≡ Some i → here w (at c) i ≡ false
    not_here x k i e =
        elim (cases_Bool (same m c i)) [
          | inl h ↦
              let one : lowest m i ≡ c = sym (lowest_same m law c i h) ∙ low in
              absurd (both_ways (is_named_in m xs c) absent
              (any_from (λ x. leads m c (slot_of x)) xs x k (ap (leads m c) e ∙ eq-eqb (lowest m i) c one)))
          | inr h ↦ h
        ]

    same_link : (x : Statement) → Member x xs → link_at w (at c) x ≡ link_at w Elsewhere x
    same_link (W b a i v) k = ap (λ (t : Bool). cond t None (Some (b.0, a.0))) (not_here (W b a i v) k i.0 refl)
    same_link (R a i v) k = refl
    same_link (E a b) k = refl
    same_link (D a b) k = refl

    same_mark : (x : Statement) → Member x xs → mark_at w (at c) x ≡ mark_at w Elsewhere x
    same_mark (W b a i v) k = ap (λ (t : Bool). cond t (Some (b.0, v.0)) None) (not_here (W b a i v) k i.0 refl)
    same_mark (R a i v) k = ap (λ (t : Bool). cond t (Some (a.0, v.0)) None) (not_here (R a i v) k i.0 refl)
    same_mark (E a b) k = refl
    same_mark (D a b) k = refl

    same_links : links_at w xs (at c) ≡ links_at w xs Elsewhere
    unfolding links_at
    same_links = present_same (link_at w (at c)) (link_at w Elsewhere) xs same_link

    same_marks : marks_at w xs (at c) ≡ marks_at w xs Elsewhere
    unfolding marks_at
    same_marks = present_same (mark_at w (at c)) (mark_at w Elsewhere) xs same_mark

    pub as_elsewhere : (s : Sight) → SeenAt w xs Elsewhere s → SeenAt w xs (at c) s
    as_elsewhere s seen =
        subst (λ (M : List (ℕ × ℕ)). Seen w.readings (links_at w xs (at c)) M s) (sym same_marks)
        (subst (λ (L : List (ℕ × ℕ)). Seen w.readings L (marks_at w xs Elsewhere) s) (sym same_links) seen)

-- a sight that clashes is of a column that does
pub clash_at_lem : (w : Setting) → Lawful w.readings → (xs : List Statement) (k : Column) (s : Sight) → SeenAt w xs k s → s.clash ≡ clash_at w xs k
unfolding clash_at
clash_at_lem w law xs k s seen = clash_is w.readings law (links_at w xs k) (marks_at w xs k) s seen

-- the classes below c have their sights, and the others that of elsewhere
pub record SeenBelow (w : Setting) (xs : List Statement) (elsewhere : Sight) (c : ℕ) (each : List Sight) : Type 0 where
  pub classes : (k : ℕ) → k < c → lowest w.slots k ≡ k → (d : Sight) → SeenAt w xs (at k) (get_or each k d)
  pub later : (k : ℕ) → c ≤ k → k < 64 → (d : Sight) → get_or each k d ≡ elsewhere
  pub only : (k : ℕ) → k < 64 → (d : Sight) → OfColumn w xs (get_or each k d)

-- the lowest name of a class is a place among 64
pub led_below : (m : Meaning) → Lawful m → (i c : ℕ) → lowest_of m i ≡ Some c → c < 64
led_below m law i c e =
    elim (cases_lt i m.size) [
      | inl l ↦ omega (arith, some_inj (sym e ∙ cond-true (ltb i m.size) _ _ (lt-ltb i m.size l)), lowest-le m law i, law.small)
      | inr l ↦ absurd (none_some (sym (cond-false (ltb i m.size) _ _ (le-ltb i m.size l)) ∙ e))
    ]

pub readable_one : (w : Setting) (xs : List Statement) (x : Statement) → Readable w xs → Member x xs → Readable w (x ∷ [])
readable_one w xs x readable m y (inl e) = subst (λ (z : Statement). is_within 128 w z ≡ true) e (readable x m)
readable_one w xs x readable m y (inr k) = elim k [ ]

pub readable_has : (w : Setting) (xs : List Statement) → is_readable w xs ≡ true → Readable w xs
readable_has w xs h x m = all_has (is_within 128 w) xs x h m

pub readable_named : (w : Setting) (xs : List Statement) → Readable w xs → Named w xs
readable_named w xs readable x m = is_named_lem w x (readable x m)

-- What looking at a list that is tried finds.
module _ (t : Trial) where
  abbrev w : Setting
  w = setting t

  abbrev xs : List Statement
  xs = tried t

  law : Lawful w.slots
  law = lawful t.naming.now.slots

  named : Named w xs
  named = readable_named w xs t.readable

  pub loud_elsewhere : (s : Sight) → SeenAt w xs Elsewhere s → s.clash ≡ true → Loud w xs
  loud_elsewhere s seen h = record {
    column = Elsewhere;
    among = has_elsewhere w;
    clash = sym (clash_at_lem w (lawful t.naming.now.readings) xs Elsewhere s seen) ∙ h;
  }

  pub loud_at : (c : ℕ) → is_named_in w.slots xs c ≡ true → (s : Sight) → SeenAt w xs (at c) s → s.clash ≡ true → Loud w xs
  loud_at c present s seen h =
      let r = named_class w law xs named c present in record {
        column = at c;
        among = has_at w c r.0 r.1;
        clash = sym (clash_at_lem w (lawful t.naming.now.readings) xs (at c) s seen) ∙ h;
      }

  module _ (elsewhere : Sight) (nowhere : SeenAt w xs Elsewhere elsewhere) (calm : elsewhere.clash ≡ false) where
    pub seen_start : SeenBelow w xs elsewhere 0 (replicate 64 elsewhere)
    seen_start = record {
      classes = λ k l. absurd (omega arith);
      later = λ k l u d. get_or-replicate 64 k elsewhere d u;
      only = λ k u d.
          subst (OfColumn w xs) (sym (get_or-replicate 64 k elsewhere d u))
          (record { column = Elsewhere; among = has_elsewhere w; seen = nowhere; calm = calm });
    }

    module _ (c : ℕ) (each : List Sight) (below : SeenBelow w xs elsewhere c each) (small : c < 64) where
      -- what holds of the classes below c, and of c
      one_more : (P : ℕ → Type 0) → ((k : ℕ) → k < c → P k) → P c → (k : ℕ) → k < c + 1 → P k
      one_more P old new k l =
          elim (cases_lt k c) [
            | inl lt ↦ old k lt
            | inr ge ↦ let e : c ≡ k = omega arith in subst P e new
          ]

      pub seen_skip : is_named_in w.slots xs c ≡ false → SeenBelow w xs elsewhere (c + 1) each
      seen_skip absent = record {
        classes = one_more (λ k. lowest w.slots k ≡ k → (d : Sight) → SeenAt w xs (at k) (get_or each k d)) below.classes
            (λ low d. subst (SeenAt w xs (at c)) (sym (below.later c (omega arith) small d)) (as_elsewhere w law xs named c low absent elsewhere nowhere));
        later = λ k l u d. below.later k (omega arith) u d;
        only = below.only;
      }

      pub seen_set : length each ≡ 64 → (s : Sight) → SeenAt w xs (at c) s → s.clash ≡ false → is_named_in w.slots xs c ≡ true
          → SeenBelow w xs elsewhere (c + 1) (set each c s)
      seen_set long s seen quiet present = record {
        classes = one_more (λ k. lowest w.slots k ≡ k → (d : Sight) → SeenAt w xs (at k) (get_or (set each c s) k d))
            (λ k l low d.
            let ne : k ≢ c = omega arith in
            subst (SeenAt w xs (at k)) (sym (get_or-set_other each c k s d ne)) (below.classes k l low d))
            (λ low d. subst (SeenAt w xs (at c)) (sym (get_or-set_same each c s d (omega arith))) seen);
        later = λ k l u d.
            let ne : k ≢ c = omega arith in get_or-set_other each c k s d ne ∙ below.later k (omega arith) u d;
        only = λ k u d.
            elim (cases_eq k c) [
              | inr ne ↦ subst (OfColumn w xs) (sym (get_or-set_other each c k s d ne)) (below.only k u d)
              | inl e ↦
                  let r = named_class w law xs named c present in
                  subst (OfColumn w xs) (sym (ap (λ (k : ℕ). get_or (set each c s) k d) e ∙ get_or-set_same each c s d (omega arith)))
                  (record { column = at c; among = has_at w c r.0 r.1; seen = seen; calm = quiet })
            ];
      }
