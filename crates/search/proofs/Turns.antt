-- What the search keeps true from turn to turn, and why its answer is the nearest.
use Rattle.std.proofs.Common.{◌≡◌, ℕ, ◌+◌, ◌<◌, ◌≤◌, Bool, true, false, ltb, ◌⊎◌, List, [], ◌∷◌, map, set, Some, None, Option, sym, refl, ap, ◌∙◌, subst, inl, inr, arith, length-set}
use Rattle.std.specs.List.{AllByRecursion}
use Rattle.std.proofs.lemmas.List.{get_or-set_same}
use Rattle.std.proofs.lemmas.Bool.{cond-true, lt-ltb}
use Rattle.links.specs.Chains.{Chain, Nearest, fewest, next, none}
use Rattle.links.specs.Lists.{Member, present}
use Rattle.links.proofs.Fewest.{fewest_is}
use Rattle.search.specs.Entries.{Inside, searched}
use Rattle.search.specs.Lines.{first_of}
use Rattle.search.specs.Tables.{at, blank}
use Rattle.search.specs.Walks.{Walk, noted, visited, walk}
use Rattle.search.proofs.Rising.{Rising, rising_member, rising_wider}
use Rattle.search.proofs.Tables.{Fresh, Near, at_blank, set_known}
use Rattle.search.proofs.Visits.{Done, Honest, Mid, Table, all_near, honest_made, opens, under_visited}

-- what waits has distances that rise by at most one from the first, and nothing is reached farther
abbrev pub Stepped : List (Option ℕ) → List ℕ → Type 0
Stepped D [] = Unit {0}
Stepped D (x ∷ ys) = (n : ℕ) × (at D x ≡ Some n) × Rising D n (n + 1) ys × ((y d : ℕ) → at D y ≡ Some d → d ≤ n + 1)

-- between two turns; `left` bounds the turns that are left
pub record Top (links : List (ℕ × ℕ)) (goal : ℕ → Bool) (from left : ℕ) (D : List (Option ℕ)) (ys : List ℕ) : Type 0 where
  pub table : Table links from D
  pub stepped : Stepped D ys
  pub late : (y d : ℕ) → Member y ys → at D y ≡ Some d → d + left ≤ 128
  pub fate : (y d : ℕ) → at D y ≡ Some d → Member y ys ⊎ Done links goal D y d

module _ (links : List (ℕ × ℕ)) (goal : ℕ → Bool) (from : ℕ) where
  -- the first that waits is taken
  top_mid : (left x : ℕ) (D : List (Option ℕ)) (ys : List ℕ) (t : Top links goal from left D (x ∷ ys)) → Mid links goal from x t.stepped.0 D ys
  top_mid left x D ys t = record {
    table = t.table;
    mine = t.stepped.1;
    rising = t.stepped.2;
    near = t.stepped.3;
    fate = t.fate;
  }

  stepped_from : (x n : ℕ) (D : List (Option ℕ)) (ys : List ℕ) → Mid links goal from x n D ys → Stepped D ys
  stepped_from x n D [] m = tt
  stepped_from x n D (y ∷ ys) m =
      let k = m.rising.0 in
      (k, m.rising.1, grind (arith, rising_wider D k (n + 1) (k + 1) ys, m.rising), λ z d is. grind (arith, m.near z d is, m.rising))

  -- all names next to it are noted
  mid_top : (left x n : ℕ) (D : List (Option ℕ)) (ys : List ℕ) → n + 1 + left ≤ 128 → Done links goal D x n → Mid links goal from x n D ys → Top links goal from left D ys
  mid_top left x n D ys few own m = record {
    table = m.table;
    stepped = stepped_from x n D ys m;
    late = λ y d q is. omega (arith, rising_member D n (n + 1) ys y d m.rising q is);
    fate = λ y d is. grind (arith, m.fate y d is, m.mine, own);
  }

  -- x is the first that waits: all that is nearer is done, so no chain leads to a goal nearer than x
  module _ (left x : ℕ) (D : List (Option ℕ)) (ys : List ℕ) (t : Top links goal from left D (x ∷ ys)) where
    abbrev n : ℕ
    n = t.stepped.0

    waits_later : (c d : ℕ) → at D c ≡ Some d → Member c (x ∷ ys) → n ≤ d
    waits_later c d is (inl e) = grind arith
    waits_later c d is (inr m) = (rising_member D n (n + 1) ys c d t.stepped.2 m is).0

    settled : (c d : ℕ) → at D c ≡ Some d → d < n → Done links goal D c d
    settled c d is lt = grind (arith, t.fate c d is, waits_later c d is)

    chain_near : (c k : ℕ) → Chain links from c k → k ≤ n → Near D c k
    chain_near c k none le = grind (arith, t.table.start)
    chain_near c k (next {b = b} {n = m} ch j) le =
        let a = chain_near b m ch (omega arith) in
        grind (arith, a, settled b a.0)

    no_nearer : (c k : ℕ) → Chain links from c k → k < n → goal c ≡ false
    no_nearer c k ch lt =
        let a = chain_near c k ch (omega arith) in
        grind (arith, a, settled c a.0)

    pub goal_found : goal x ≡ true → Nearest links goal from (Some n)
    goal_found g = ((x, g, t.table.sound x n t.stepped.1), λ c k ch h. grind (arith, no_nearer c k ch))

  -- nothing waits: all that a chain leads to is reached, and done
  module _ (left : ℕ) (D : List (Option ℕ)) (t : Top links goal from left D []) where
    all_done : (c k : ℕ) → Chain links from c k → (d : ℕ) × Done links goal D c d
    all_done c k none = (0, grind (arith, t.fate from 0 t.table.start))
    all_done c k (next {b = b} {n = m} ch j) =
        let r = (all_done b m ch).1.1 c j in
        (r.0, grind (arith, t.fate c r.0 r.1))

    goal_none : Nearest links goal from None
    goal_none c k ch = (all_done c k ch).1.0

-- from a name, what is nearest is what the search answers
pub nearest_searched : (count : ℕ) (links : List (ℕ × ℕ)) (goal : ℕ → Bool) (from : ℕ) (r : Option ℕ)
    → from < count → Nearest links goal from r → r ≡ searched count links goal from
nearest_searched count links goal from r below near =
    fewest_is links goal from r near ∙ sym (cond-true (ltb from count) (fewest links goal from) None (lt-ltb from count below))

-- the name from which the search starts is noted, and no other
module _ (links : List (ℕ × ℕ)) (goal : ℕ → Bool) (from : ℕ) (below : from < 128) where
  abbrev started : List (Option ℕ)
  started = set blank from (Some 0)

  -- each name that is reached is the first
  start_known : (z d : ℕ) → at started z ≡ Some d → (z ≡ from) × (d ≡ 0)
  start_known z d is =
      let fresh : Fresh blank from = record { size = refl; below = below; new = at_blank from } in
      grind (arith, set_known blank from 0 fresh z d is, at_blank z)

  top_start : Top links goal from 128 started (from ∷ [])
  top_start =
      let start : at started from ≡ Some 0 = get_or-set_same blank from (Some 0) None below in
      let here : Chain links from from 0 = none in
      record {
        table = record {
          size = length-set blank from (Some 0);
          start = start;
          sound = λ z d is. grind (arith, here, start_known z d is);
        };
        stepped = (0, start, omega arith, λ z d is. omega (arith, start_known z d is));
        late = λ z d m is. omega (arith, start_known z d is);
        fate = λ z d is. inl (inl (sym (start_known z d is).0));
      }

-- between two turns, of entries of any kind
pub record Going {E : Type 0} (name_of : E → ℕ) (distance_of : E → Option ℕ → Option ℕ) (links : List (ℕ × ℕ)) (goal : ℕ → Bool) (from left : ℕ) (w : Walk E) : Type 0 where
  pub top : Top links goal from left w.known (map name_of w.wait)
  pub honest : Honest name_of distance_of w.known w.wait

module _ {E : Type 0} (made : ℕ → ℕ → E) (name_of : E → ℕ) (distance_of : E → Option ℕ → Option ℕ)
    (named : (y d : ℕ) → name_of (made y d) ≡ y) (measured : (y d : ℕ) → distance_of (made y d) (Some d) ≡ Some d) where
  pub going_start : (links : List (ℕ × ℕ)) (goal : ℕ → Bool) (from left : ℕ) (v w : Walk E) → from < 128
      → v ≡ walk blank [] → w ≡ noted made from 0 v → left ≡ 128 → Going name_of distance_of links goal from left w
  going_start links goal from left v w below blank-is note-is all =
      let N = set blank from (Some 0) in
      let first : noted made from 0 (walk blank []) ≡ walk N (made from 0 ∷ []) = grind (arith, at_blank from) in
      let same : w ≡ walk N (made from 0 ∷ []) = cc (note-is, blank-is, first) in
      let start = top_start links goal from below in
      subst (Going name_of distance_of links goal from left) (sym same) (record {
        top = grind (arith, start, named from 0);
        honest = (honest_made made name_of distance_of named measured N from 0 start.table.start, tt);
      })

  -- a turn of the search: e is taken of what waits, W, and V is left
  module _ (es : List (Option (ℕ × ℕ))) {goal : ℕ → Bool} {from left : ℕ} {D : List (Option ℕ)} {W V : List E} {e : E} (taken : W ≡ e ∷ V)
      (going : Going name_of distance_of (present es) goal from left (walk D W)) where
    abbrev y : ℕ
    y = name_of e

    going_e : Going name_of distance_of (present es) goal from left (walk D (e ∷ V))
    going_e = subst (λ S. Going name_of distance_of (present es) goal from left (walk D S)) taken going

    abbrev least : ℕ
    least = going_e.top.stepped.0

    -- x and d are what the code has for the name and the distance of e
    module _ (x d : ℕ) (name-is : x ≡ name_of e) (said : distance_of e (at D (name_of e)) ≡ Some d) where
      turn_is : at D y ≡ Some d
      turn_is = sym going_e.honest.0 ∙ said

      turn_same : d ≡ least
      turn_same = grind (arith, turn_is, going_e.top.stepped.1)

      pub turn_short : d + left ≤ 128
      turn_short = going_e.top.late y d (inl refl) turn_is

      pub turn_found : goal x ≡ true → Nearest (present es) goal from (Some d)
      turn_found g = rw turn_same (goal_found (present es) goal from left y D (map name_of V) going_e.top (ap goal (sym name-is) ∙ g))

      pub turn_next : (less : ℕ) (v : Walk E) → left ≡ less + 1 → AllByRecursion (Inside 128) es → goal x ≡ false
          → v ≡ visited made x (d + 1) es (walk D V) → Going name_of distance_of (present es) goal from less v
      turn_next less v fewer inside g visit-is =
          let w : Walk E = visited made y (least + 1) es (walk D V) in
          let same : v ≡ w = cc (visit-is, name-is, turn_same) in
          let mid = top_mid (present es) goal from left y D (map name_of V) going_e.top in
          let r = under_visited made name_of distance_of named measured (present es) goal from y least es (walk D V) (mid, going_e.honest.1) (opens es y inside) in
          let after = r.0.0 in
          let self : Near w.known y (least + 1) = (least, after.0.mine, omega arith) in
          subst (Going name_of distance_of (present es) goal from less) (sym same) (record {
            top = mid_top (present es) goal from less y least w.known (map name_of w.wait) (omega (arith, turn_short, turn_same))
                (ap goal (sym name-is) ∙ g, all_near w.known y (least + 1) self es r.1) after.0;
            honest = after.1;
          })

-- nothing waits
pub turn_none : {E : Type 0} (name_of : E → ℕ) (distance_of : E → Option ℕ → Option ℕ) (links : List (ℕ × ℕ)) (goal : ℕ → Bool) (from left : ℕ) (D : List (Option ℕ)) (W : List E)
    → Going name_of distance_of links goal from left (walk D W) → None ≡ first_of W → Nearest links goal from None
turn_none name_of distance_of links goal from left D [] going first = goal_none links goal from left D going.top
turn_none name_of distance_of links goal from left D (e ∷ es) going first = cc
