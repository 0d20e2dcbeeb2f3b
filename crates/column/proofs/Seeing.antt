-- What a sight tells of the column.
use Rattle.std.proofs.Common.{nat_eq, ◌≡◌, ℕ, ◌<◌, Bool, true, false, cond, ◌||◌, eqb, ltb, ◌⊎◌, List, [], ◌∷◌, ◌++◌, Some, None, Option, sym, refl, ap, ap₂, ◌∙◌, subst, inl, inr}
use Rattle.std.specs.List.{list_all}
use Rattle.std.proofs.lemmas.Bool.{and_parts, both_ways, cases_Bool, eq-eqb, eqb-true, false≢true, ltb-true, or_cases, or_left, or_right}
use Rattle.links.specs.Chains.{joined, lowest_joined}
use Rattle.links.specs.Groups.{root_of}
use Rattle.links.specs.Lists.{Member}
use Rattle.links.proofs.Lists.{all_has, member_left, member_right}
use Rattle.links.proofs.Reach.{joined_finds, joined_through, joined_turn}
use Rattle.links.proofs.Roots.{lowest_back as joined_back, lowest_same as joined_same}
use Rattle.arrangement.specs.Meaning.{Lawful, Meaning, lowest, same}
use Rattle.arrangement.specs.Laws.{same_answer}
use Rattle.arrangement.specs.Lowest.{lowest_back, lowest_same}
use Rattle.statement.specs.declared.Statement.{Statement}
use Rattle.statement.specs.declared.Statement.TheVariants.{W, R, E, D}
use Rattle.meaning.specs.declared.column.Column.{Column}
use Rattle.meaning.specs.Answers.{known_by}
use Rattle.meaning.specs.Columns.{TablesAlike, alike, clash, difference, here, link_at, mark_at}
use Rattle.meaning.specs.Fillings.{Setting, is_named, is_within, tables_of}
use Rattle.meaning.proofs.Known.{Marked, Unmarked, known_cases}
use Rattle.meaning.proofs.Lists.{none_some, some_inj}
use Rattle.meaning.proofs.Sound.{mark_reading, reading_named}
use Rattle.meaning.proofs.Marks.{alike_means, clash_from, clash_has}
use Rattle.column.specs.declared.sight.Sight.{Sight}
use Rattle.arrangement.specs.Numbers.{both_equal}
use Rattle.column.specs.Sights.{Readable, Seen, SeenBy, given, marked_clash, marked_marks, reading_of, seem_alike}
use Rattle.column.proofs.Noting.{mark_is, root_is, seen_more}

module _ (m : Meaning) (law : Lawful m) (L M : List (ℕ × ℕ)) (s : Sight) (seen : Seen m L M s) where
  pub clash_is : s.clash ≡ clash m L M
  clash_is =
      same_answer s.clash (clash m L M)
      (λ h. clash_from m L M (seen.clashes.0 h)) (λ h. seen.clashes.1 (clash_has m L M h))

  pub lowest_is : (t : ℕ) → t < 128 → root_of s.groups.root t ≡ lowest_joined L t
  lowest_is t l = root_is m law L M s.groups.root s.marks s.clash seen s.groups.long s.long t l

  pub reading_is : (t : ℕ) → t < 128 → reading_of s t ≡ known_by m L M t
  reading_is t l = mark_is m law L M s.groups.root s.marks s.clash seen s.groups.long s.long t l

  -- where nothing clashes, tables are alike exactly when they seem so
  module _ (calm : s.clash ≡ false) (a b : ℕ) (la : a < 128) (lb : b < 128) where
    abbrev one_group : Bool
    one_group = eqb (root_of s.groups.root a) (root_of s.groups.root b)

    abbrev one_mark : Bool
    one_mark = both_equal nat_eq (reading_of s a) (reading_of s b)

    marks_agree : (p q : ℕ × ℕ) → Member p M → Member q M → joined L p.0 q.0 ≡ true → same m p.1 q.1 ≡ true
    marks_agree p q k l j =
        elim (cases_Bool (same m p.1 q.1)) [
          | inl e ↦ e
          | inr e ↦ absurd (both_ways s.clash calm (seen.clashes.1 (record {
            p = p;
            q = q;
            marked_p = k;
            marked_q = l;
            chain = (joined_finds L p.0 q.0).0 j;
            unlike = e;
          })))
        ]

    -- a table that a chain joins to a mark has that mark's reading
    reading_by : (t : ℕ) → t < 128 → (p : ℕ × ℕ) → Member p M → joined L t p.0 ≡ true → reading_of s t ≡ Some (lowest m p.1)
    reading_by t l p k j =
        elim (known_cases m L M t) [
          | inl r ↦
              reading_is t l ∙ r.is
              ∙ ap (λ (c : ℕ). Some c) (lowest_same m law r.mark.1 p.1
              (marks_agree r.mark p r.among k (joined_through L r.mark.0 t p.0 (joined_turn L t r.mark.0 r.chain) j)))
          | inr r ↦ absurd (r.never p k j)
        ]

    seem_from : TablesAlike m L M a b → seem_alike s a b ≡ true
    seem_from (inl chain) =
        or_left one_group one_mark
        (eq-eqb (root_of s.groups.root a) (root_of s.groups.root b)
        (lowest_is a la ∙ joined_same L a b ((joined_finds L a b).1 chain) ∙ sym (lowest_is b lb)))
    seem_from (inr r) =
        let x = reading_by a la r.p r.marked_p ((joined_finds L a r.p.0).1 r.chain_a) in
        let y = reading_by b lb r.q r.marked_q ((joined_finds L b r.q.0).1 r.chain_b) in
        or_right one_group one_mark
        (ap (λ o. both_equal nat_eq o (reading_of s b)) x ∙ ap (both_equal nat_eq (Some (lowest m r.p.1))) y
        ∙ eq-eqb (lowest m r.p.1) (lowest m r.q.1) (lowest_same m law r.p.1 r.q.1 r.alike))

    seem_has : seem_alike s a b ≡ true → TablesAlike m L M a b
    seem_has h =
        elim (or_cases one_group one_mark h) [
          | inl e ↦
              inl ((joined_finds L a b).0
              (joined_back L a b (sym (lowest_is a la) ∙ eqb-true (root_of s.groups.root a) (root_of s.groups.root b) e ∙ lowest_is b lb)))
          | inr e ↦ marked (known_cases m L M a) (known_cases m L M b) (sym (ap₂ (both_equal nat_eq) (reading_is a la) (reading_is b lb)) ∙ e)
        ]
      where
        marked : Marked m L M a ⊎ Unmarked m L M a → Marked m L M b ⊎ Unmarked m L M b
            → both_equal nat_eq (known_by m L M a) (known_by m L M b) ≡ true → TablesAlike m L M a b
        marked (inl p) (inl q) e =
            inr (record {
              p = p.mark;
              q = q.mark;
              marked_p = p.among;
              marked_q = q.among;
              chain_a = (joined_finds L a p.mark.0).0 p.chain;
              chain_b = (joined_finds L b q.mark.0).0 q.chain;
              alike = lowest_back m law p.mark.1 q.mark.1 (seen.named p.mark p.among).1 (seen.named q.mark q.among).1
                  (eqb-true (lowest m p.mark.1) (lowest m q.mark.1) (sym (ap₂ (both_equal nat_eq) p.is q.is) ∙ e));
            })
        marked (inr p) q e = absurd (false≢true (sym (ap (λ o. both_equal nat_eq o (known_by m L M b)) p.is) ∙ e))
        marked (inl p) (inr q) e = absurd (false≢true (sym (ap₂ (both_equal nat_eq) p.is q.is) ∙ e))

    pub alike_is : seem_alike s a b ≡ alike m L M a b
    alike_is =
        same_answer (seem_alike s a b) (alike m L M a b)
        (λ h. (alike_means m L M a b).1 (seem_has h)) (λ h. seem_from ((alike_means m L M a b).0 h))

-- one more mark, in a sight
pub seen_marked : (m : Meaning) → Lawful m → (L M : List (ℕ × ℕ)) (s s' : Sight) → Seen m L M s → (t v c : ℕ) → t < 128 → v < m.size → c ≡ lowest m v
    → s'.groups ≡ s.groups → s'.marks ≡ marked_marks s.groups.root s.marks t c
    → s'.clash ≡ (s.clash || marked_clash s.groups.root s.marks t c) → Seen m L (M ++ (t, v) ∷ []) s'
seen_marked m law L M s s' seen t v c lt lv e groups marks clashes =
    let root = s.groups.root in
    let more = seen_more m law L M root s.marks s.clash seen s.groups.long s.long t v lt lv in
    let more-c : SeenBy m L (M ++ (t, v) ∷ []) root (marked_marks root s.marks t c) (s.clash || marked_clash root s.marks t c) =
    subst (λ (c : ℕ). SeenBy m L (M ++ (t, v) ∷ []) root (marked_marks root s.marks t c) (s.clash || marked_clash root s.marks t c)) (sym e) more in
    subst (λ (b : Bool). SeenBy m L (M ++ (t, v) ∷ []) s'.groups.root s'.marks b) (sym clashes)
    (subst (λ (l : List (Option ℕ)). SeenBy m L (M ++ (t, v) ∷ []) s'.groups.root l (s.clash || marked_clash root s.marks t c)) (sym marks)
    (subst (λ (r : List ℕ). SeenBy m L (M ++ (t, v) ∷ []) r (marked_marks root s.marks t c) (s.clash || marked_clash root s.marks t c))
    (sym (λ i. (groups i).root)) more-c))

-- the tables of a statement are below 128
module _ (w : Setting) (x : Statement) (within : is_within 128 w x ≡ true) where
  tabled : (t : ℕ) → Member t (tables_of x) → t < 128
  tabled t k =
      ltb-true t 128 (all_has (λ t. ltb t 128) (tables_of x) t (and_parts (list_all (λ t. ltb t 128) (tables_of x)) (is_named w x) within).0 k)

  pub is_named_lem : is_named w x ≡ true
  is_named_lem = (and_parts (list_all (λ t. ltb t 128) (tables_of x)) (is_named w x) within).1

abbrev Both : List ℕ → ℕ × ℕ → Type 0
Both ts p = Member p.0 ts × Member p.1 ts

link_tables : (w : Setting) (k : Column) (x : Statement) (p : ℕ × ℕ) → link_at w k x ≡ Some p → Both (tables_of x) p
link_tables w k (W b a i v) p h = go (here w k i.0) h
  where
    go : (t : Bool) → cond t None (Some (b.0, a.0)) ≡ Some p → Both (b.0 ∷ a.0 ∷ []) p
    go true h = absurd (none_some h)
    go false h = subst (Both (b.0 ∷ a.0 ∷ [])) (some_inj h) (inl refl, inr (inl refl))
link_tables w k (R a i v) p h = absurd (none_some h)
link_tables w k (E a b) p h = subst (Both (a.0 ∷ b.0 ∷ [])) (some_inj h) (inl refl, inr (inl refl))
link_tables w k (D a b) p h = absurd (none_some h)

one_table : (t : Bool) (a v : ℕ) (ts : List ℕ) (p : ℕ × ℕ) → cond t (Some (a, v)) None ≡ Some p → Member p.0 (a ∷ ts)
one_table true a v ts p h = inl (ap (λ (q : ℕ × ℕ). q.0) (some_inj h))
one_table false a v ts p h = absurd (none_some h)

mark_table : (w : Setting) (k : Column) (x : Statement) (p : ℕ × ℕ) → mark_at w k x ≡ Some p → Member p.0 (tables_of x)
mark_table w k (W b a i v) p h = one_table (here w k i.0) b.0 v.0 (a.0 ∷ []) p h
mark_table w k (R a i v) p h = one_table (here w k i.0) a.0 v.0 [] p h
mark_table w k (E a b) p h = absurd (none_some h)
mark_table w k (D a b) p h = absurd (none_some h)

difference_tables : (x : Statement) (p : ℕ × ℕ) → difference x ≡ Some p → Both (tables_of x) p
difference_tables (W b a i v) p h = absurd (none_some h)
difference_tables (R a i v) p h = absurd (none_some h)
difference_tables (E a b) p h = absurd (none_some h)
difference_tables (D a b) p h = subst (Both (a.0 ∷ b.0 ∷ [])) (some_inj h) (inl refl, inr (inl refl))

module _ (w : Setting) (x : Statement) (within : is_within 128 w x ≡ true) (p : ℕ × ℕ) where
  pub mark_below : (k : Column) → mark_at w k x ≡ Some p → (p.0 < 128) × (p.1 < w.readings.size)
  mark_below k h =
      (tabled w x within p.0 (mark_table w k x p h), reading_named w x (is_named_lem w x within) p.1 (mark_reading w k x p h))

  pub difference_below : difference x ≡ Some p → (p.0 < 128) × (p.1 < 128)
  difference_below h =
      let both = difference_tables x p h in (tabled w x within p.0 both.0, tabled w x within p.1 both.1)

-- the parts of a readable list are readable
module _ (w : Setting) (x : Statement) (ys zs : List Statement) (readable : Readable w (given x ys zs)) where
  pub readable_first : Readable w (x ∷ [])
  readable_first y (inl e) = readable y (inl e)
  readable_first y (inr k) = elim k [ ]

  pub readable_kept : Readable w ys
  readable_kept y k = readable y (inr (member_left y ys zs k))

  pub readable_rest : Readable w zs
  readable_rest y k = readable y (inr (member_right y ys zs k))
