-- Names that a chain of pairings joins are the same, and only those.
use Rattle.std.specs.Prelude.{◌≡◌, ℕ, ◌<◌, Bool, true, ◌&&◌, ◌↔◌, List, length, ◌==◌, nat_lt, slice_index}
use Rattle.std.proofs.Math.Path.{refl}
use Rattle.std.proofs.Common.{sym, subst, ◌∙◌}
use Rattle.std.proofs.lemmas.Bool.{and_from, and_parts, eq-eqb, eqb-true, lt-ltb, ltb-true}
use Rattle.links.specs.Chains.{Joins, joined, lowest_joined}
use Rattle.links.specs.Groups.{root_of}
use Rattle.links.proofs.Reach.{joined_finds, joined_self, joined_through, joined_turn}
use Rattle.links.proofs.Roots.{lowest_back, lowest_same, root_is}
use Rattle.arrangement.specs.Meaning.{same}
use Rattle.arrangement.specs.Laws.{same_answer}
use Rattle.paired.specs.Calls.{Call, run}
use Rattle.paired.specs.Pairings.{Pairings, are_names, meaning_of, none}

module _ (p : Pairings) where
  -- same is: both are names, and joined
  pub same_is : (i j : ℕ) → same (meaning_of p) i j ≡ are_names p i j && joined p.links i j
  unfolding same
  same_is i j = refl

  same_parts : (i j : ℕ) → same (meaning_of p) i j ≡ true → ((i < p.count) × (j < p.count)) × (joined p.links i j ≡ true)
  same_parts i j h =
      let both = and_parts (are_names p i j) (joined p.links i j) (sym (same_is i j) ∙ h) in
      let names = and_parts (nat_lt i p.count) (nat_lt j p.count) both.0 in
      ((ltb-true i p.count names.0, ltb-true j p.count names.1), both.1)

  same_from : (i j : ℕ) → i < p.count → j < p.count → joined p.links i j ≡ true → same (meaning_of p) i j ≡ true
  same_from i j a b h = same_is i j ∙ and_from _ _ (and_from _ _ (lt-ltb i p.count a) (lt-ltb j p.count b)) h

  pub reflexive : (i : ℕ) → i < p.count → same (meaning_of p) i i ≡ true
  reflexive i a = same_from i i a a (joined_self p.links i)

  pub symmetric : (i j : ℕ) → same (meaning_of p) i j ≡ true → same (meaning_of p) j i ≡ true
  symmetric i j h = let s = same_parts i j h in same_from j i s.0.1 s.0.0 (joined_turn p.links i j s.1)

  pub transitive : (i j k : ℕ) → same (meaning_of p) i j ≡ true → same (meaning_of p) j k ≡ true → same (meaning_of p) i k ≡ true
  transitive i j k h g =
      let s = same_parts i j h in
      let t = same_parts j k g in
      same_from i k s.0.0 t.0.1 (joined_through p.links i j k s.1 t.1)

  -- in the words of chains
  pub same_chain : (i j : ℕ) → (same (meaning_of p) i j ≡ true) ↔ ((i < p.count) × (j < p.count) × Joins p.links i j)
  same_chain i j = (
    λ h. let s = same_parts i j h in (s.0.0, s.0.1, (joined_finds p.links i j).0 s.1),
    λ r. same_from i j r.0 r.1 ((joined_finds p.links i j).1 r.2),
  )

-- equal roots are joined names
pub roots_joined : (links : List (ℕ × ℕ)) (root : List ℕ) → length root ≡ 128 → ((t : ℕ) → t < 128 → slice_index root t ≡ lowest_joined links t) → (i j : ℕ) → i < 128 → j < 128 → (root_of root i == root_of root j) ≡ joined links i j
roots_joined links root long grouped i j a b =
    let p = root_is root long i a ∙ grouped i a in
    let q = root_is root long j b ∙ grouped j b in
    same_answer (root_of root i == root_of root j) (joined links i j)
    (λ h. lowest_back links i j (sym p ∙ eqb-true (root_of root i) (root_of root j) h ∙ q))
    (λ h. eq-eqb (root_of root i) (root_of root j) (p ∙ lowest_same links i j h ∙ sym q))

-- an answer that is `same` says, after any calls, whether a chain of the pairings since the count was set joins the names
pub same_after : (p : Pairings) (i j : ℕ) (r : Bool) → r ≡ same (meaning_of p) i j → (calls : List Call) → p ≡ run none calls → (r ≡ true) ↔ ((i < (run none calls).count) × (j < (run none calls).count) × Joins (run none calls).links i j)
same_after p i j r is calls e =
    subst (λ (q : Pairings). (r ≡ true) ↔ ((i < q.count) × (j < q.count) × Joins q.links i j)) e
    (λ h. (same_chain p i j).0 (sym is ∙ h), λ h. is ∙ (same_chain p i j).1 h)
