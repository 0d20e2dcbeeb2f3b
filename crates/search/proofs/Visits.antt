-- What stays true while the names next to one are noted.
use Rattle.std.proofs.Common.{◌≡◌, ℕ, ◌+◌, ◌<◌, ◌≤◌, Bool, false, ◌⊎◌, List, [], ◌∷◌, ◌++◌, map, length, set, IfSome, Some, None, Option, is_some, sym, ap, ◌∙◌, subst, arith}
use Rattle.std.specs.List.{AllByRecursion}
use Rattle.std.proofs.ByRecursion.{All-push, All-weaker}
use Rattle.std.proofs.lemmas.Bool.Decides.{nat_tests}
use Rattle.std.proofs.lemmas.Grind.{common_steps}
use Rattle.std.proofs.lemmas.List.{map_push}
use Rattle.std.proofs.lemmas.Bool.{cond_both}
use Rattle.std.proofs.lemmas.Option.{IfSome_then}
use Rattle.links.specs.Chains.{Chain, Linked, next}
use Rattle.links.specs.Lists.{Member, present}
use Rattle.links.proofs.Lists.{member_left, member_right}
use Rattle.links.proofs.Reach.{linked_more}
use Rattle.search.specs.Entries.{Inside, across}
use Rattle.search.specs.Tables.{at}
use Rattle.search.specs.Walks.{Walk, noted, noted_if, visited, walk}
use Rattle.search.proofs.Rising.{Rising, rising_more, rising_push}
use Rattle.search.proofs.Tables.{Fresh, More, Near, near_more, reached, set_more, set_same, unreached}

-- nothing is left to do at y, which d links reach: it is no goal, and each name next to it is reached
abbrev pub Done : List (ℕ × ℕ) → (ℕ → Bool) → List (Option ℕ) → ℕ → ℕ → Type 0
Done links goal D y d = (goal y ≡ false) × ((z : ℕ) → Linked links y z → Near D z (d + 1))

-- what is true of the table at all times
pub record Table (links : List (ℕ × ℕ)) (from : ℕ) (D : List (Option ℕ)) : Type 0 where
  pub size : length D ≡ 128
  pub start : at D from ≡ Some 0
  pub sound : (y d : ℕ) → at D y ≡ Some d → Chain links from y d

-- while x, which n links reach, is visited; ys are the names that wait
pub record Mid (links : List (ℕ × ℕ)) (goal : ℕ → Bool) (from x n : ℕ) (D : List (Option ℕ)) (ys : List ℕ) : Type 0 where
  pub table : Table links from D
  pub mine : at D x ≡ Some n
  pub rising : Rising D n (n + 1) ys
  pub near : (y d : ℕ) → at D y ≡ Some d → d ≤ n + 1
  pub fate : (y d : ℕ) → at D y ≡ Some d → Member y (x ∷ ys) ⊎ Done links goal D y d

-- a name next to x is noted
module _ (links : List (ℕ × ℕ)) (goal : ℕ → Bool) (from x n : ℕ) (D : List (Option ℕ)) (ys : List ℕ) (y : ℕ)
    (mid : Mid links goal from x n D ys) (fresh : Fresh D y) (next-to : Linked links x y) where
  abbrev N : List (Option ℕ)
  N = set D y (Some (n + 1))

  more : More D N
  more = set_more D y (n + 1) fresh

  table_note : Table links from N
  table_note = record {
    size = grind (arith, common_steps);
    start = more from 0 mid.table.start;
    sound = λ z d is. grind (arith, common_steps, next {b = x} {c = y} (mid.table.sound x n mid.mine) next-to);
  }

  done_more : (z d : ℕ) → Done links goal D z d → Done links goal N z d
  done_more z d o = (o.0, λ w j. near_more D N w (d + 1) more (o.1 w j))

  pub mid_note : Mid links goal from x n N (ys ++ (y ∷ []))
  mid_note = record {
    table = table_note;
    mine = more x n mid.mine;
    rising = rising_push N n (n + 1) ys y (set_same D y (n + 1) fresh) (rising_more D N n (n + 1) ys more mid.rising);
    near = λ z d is. grind (arith, common_steps, mid.near z d);
    fate = λ z d is. grind (arith, common_steps, mid.fate z d, done_more z d, member_right y (x ∷ ys) (y ∷ []), member_left z (x ∷ ys) (y ∷ []));
  }

-- each entry that waits says the distance that the table has
abbrev pub Honest : {E : Type 0} → (E → ℕ) → (E → Option ℕ → Option ℕ) → List (Option ℕ) → List E → Type 0
Honest name_of distance_of D es = AllByRecursion (λ e. distance_of e (at D (name_of e)) ≡ at D (name_of e)) es

-- what may follow of the other end of an entry, if it has one at x
abbrev pub Across : ℕ → (ℕ → Type 0) → Option (ℕ × ℕ) → Type 0
Across x P e = IfSome (across e x) P

-- a link leads from x to y, which is in the table
abbrev pub Opens : List (ℕ × ℕ) → ℕ → ℕ → Type 0
Opens links x y = Linked links x y × (y < 128)

-- entries of any kind: how one is made of a name and a distance, and what it says of them
module _ {E : Type 0} (made : ℕ → ℕ → E) (name_of : E → ℕ) (distance_of : E → Option ℕ → Option ℕ)
    (named : (y d : ℕ) → name_of (made y d) ≡ y) (measured : (y d : ℕ) → distance_of (made y d) (Some d) ≡ Some d) where
  honest_more : (D N : List (Option ℕ)) (low high : ℕ) (es : List E) → More D N
      → Rising D low high (map name_of es) → Honest name_of distance_of D es → Honest name_of distance_of N es
  honest_more D N low high [] grows r a = tt
  honest_more D N low high (e ∷ es) grows r a = (grind (arith, grows (name_of e) r.0, r.1, a.0), honest_more D N r.0 high es grows r.3 a.1)

  -- a new entry says the distance at which it is noted
  pub honest_made : (N : List (Option ℕ)) (y d : ℕ) → at N y ≡ Some d → distance_of (made y d) (at N (name_of (made y d))) ≡ at N (name_of (made y d))
  honest_made N y d same = grind (arith, named y d, measured y d)

  -- x is visited, which n links reach
  module _ (links : List (ℕ × ℕ)) (goal : ℕ → Bool) (from x n : ℕ) where
    abbrev pub Under : Walk E → Type 0
    Under w = Mid links goal from x n w.known (map name_of w.wait) × Honest name_of distance_of w.known w.wait

    -- v is such a walk too, and has what w has
    abbrev Onward : Walk E → Walk E → Type 0
    Onward w v = Under v × More w.known v.known

    under_new : (w : Walk E) (y : ℕ) → Under w → Linked links x y → Fresh w.known y
        → Under (walk (set w.known y (Some (n + 1))) (w.wait ++ (made y (n + 1) ∷ [])))
    under_new w y (mid, honest) next-to fresh =
        let D = w.known in
        let N = set D y (Some (n + 1)) in
        let names : map name_of (w.wait ++ (made y (n + 1) ∷ [])) ≡ map name_of w.wait ++ (y ∷ []) =
        map_push name_of w.wait (made y (n + 1)) ∙ ap (λ v. map name_of w.wait ++ (v ∷ [])) (named y (n + 1)) in (
          subst (Mid links goal from x n N) (sym names) (mid_note links goal from x n D (map name_of w.wait) y mid fresh next-to),
          All-push (λ e. distance_of e (at N (name_of e)) ≡ at N (name_of e)) w.wait (made y (n + 1))
              (honest_more D N n (n + 1) w.wait (set_more D y (n + 1) fresh) mid.rising honest)
              (honest_made N y (n + 1) (set_same D y (n + 1) fresh)),
        )

    -- y is noted where it is new, and otherwise it is near already
    under_note : (w : Walk E) (y : ℕ) → Under w → Opens links x y
        → Onward w (noted made y (n + 1) w) × Near (noted made y (n + 1) w).known y (n + 1)
    under_note w y (mid, honest) (next-to, below) =
        let D = w.known in
        cond_both (is_some (at D y)) w (walk (set D y (Some (n + 1))) (w.wait ++ (made y (n + 1) ∷ [])))
        (λ v. Onward w v × Near v.known y (n + 1))
        (λ t.
        let old = reached (at D y) t in
        (((mid, honest), λ z d is. is), (old.0, old.1, mid.near y old.0 old.1)))
        (λ f.
        let fresh : Fresh D y = record { size = mid.table.size; below = below; new = unreached (at D y) f } in
        ((under_new w y (mid, honest) next-to fresh, set_more D y (n + 1) fresh), (n + 1, set_same D y (n + 1) fresh, omega arith)))

    under_note_if : (o : Option ℕ) (w : Walk E) → Under w → IfSome o (Opens links x)
        → Onward w (noted_if made o (n + 1) w) × IfSome o (λ y. Near (noted_if made o (n + 1) w).known y (n + 1))
    under_note_if None w u c = ((u, λ z d is. is), tt)
    under_note_if (Some y) w u c = under_note w y u c

    pub under_visited : (es : List (Option (ℕ × ℕ))) (w : Walk E) → Under w → AllByRecursion (Across x (Opens links x)) es
        → Onward w (visited made x (n + 1) es w) × AllByRecursion (Across x (λ y. Near (visited made x (n + 1) es w).known y (n + 1))) es
    under_visited [] w u a = ((u, λ z d is. is), tt)
    under_visited (e ∷ es) w u (c, a) =
        let v : Walk E = noted_if made (across e x) (n + 1) w in
        let last : List (Option ℕ) = (visited made x (n + 1) es v).known in
        let s = under_note_if (across e x) w u c in
        let r = under_visited es v s.0.0 a in (
          (r.0.0, λ z d is. r.0.1 z d (s.0.1 z d is)),
          (IfSome_then (across e x) s.1 (λ y. near_more v.known last y (n + 1) r.0.1), r.1),
        )

pub opens : (es : List (Option (ℕ × ℕ))) (x : ℕ) → AllByRecursion (Inside 128) es → AllByRecursion (Across x (Opens (present es) x)) es
opens [] x a = tt
opens (None ∷ es) x a = (tt, opens es x a.1)
opens (Some p ∷ es) x a = (
  grind (arith, nat_tests),
  All-weaker (Across x (Opens (present es) x)) (Across x (Opens (p ∷ present es) x))
      (λ e c. IfSome_then (across e x) c (λ y j. (linked_more p (present es) x y j.0, j.1)))
      es (opens es x a.1),
)

-- each name next to x is within d, if the other end of each entry is, and x itself
pub all_near : (D : List (Option ℕ)) (x d : ℕ) → Near D x d
    → (es : List (Option (ℕ × ℕ))) → AllByRecursion (Across x (λ y. Near D y d)) es → (z : ℕ) → Linked (present es) x z → Near D z d
all_near D x d self [] a z j = grind arith
all_near D x d self (None ∷ es) a z j = all_near D x d self es a.1 z j
all_near D x d self (Some p ∷ es) a z j = grind (arith, nat_tests, a.0, all_near D x d self es a.1 z)

pub inside_wider : (m : ℕ) → m ≤ 128 → (es : List (Option (ℕ × ℕ))) → AllByRecursion (Inside m) es → AllByRecursion (Inside 128) es
inside_wider m few es a =
    All-weaker (Inside m) (Inside 128) (λ e i. IfSome_then e i (λ p h. (omega (arith, h.0), omega (arith, h.1)))) es a
