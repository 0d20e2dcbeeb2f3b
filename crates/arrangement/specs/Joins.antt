-- An arrangement with one pair laid over it is lawful.
use Rattle.std.proofs.Common.{◌≡◌, ℕ, ◌<◌, ◌≤◌, Bool, true, ◌||◌, ◌⊎◌, Some, None, Option, ap, ◌∙◌, inl, inr}
use Rattle.std.proofs.lemmas.Bool.{and_from, and_parts, false≢true, or_cases, or_left, or_right}
use Rattle.arrangement.specs.Meaning.{Meaning, Lawful, same}
use Rattle.arrangement.specs.Pairs.{across, joined_meaning, meets}
use Rattle.arrangement.specs.Laws.{lawful_each, lawful_from, same_answer, same_from, same_low, same_related}

module _ (m : Meaning) where
  abbrev Same : ℕ → ℕ → Type 0
  Same i j = same m i j ≡ true

  -- i is at one end, and j at the other
  abbrev Ends : ℕ → ℕ → ℕ → ℕ → Type 0
  Ends p q i j = Same i p × Same j q

  -- the pair leads from i to j, one way round or the other
  abbrev Across : Option (ℕ × ℕ) → ℕ → ℕ → Type 0
  Across None i j = ⊥
  Across (Some pair) i j = Ends pair.0 pair.1 i j ⊎ Ends pair.1 pair.0 i j

  across_has : (pair : Option (ℕ × ℕ)) (i j : ℕ) → across m pair i j ≡ true → Across pair i j
  across_has None i j h = false≢true h
  across_has (Some pair) i j h =
      elim (or_cases (meets m pair.0 pair.1 i j) (meets m pair.1 pair.0 i j) h) [
        | inl e ↦ inl (and_parts _ _ e)
        | inr e ↦ inr (and_parts _ _ e)
      ]

  across_from : (pair : Option (ℕ × ℕ)) (i j : ℕ) → Across pair i j → across m pair i j ≡ true
  across_from None i j h = absurd h
  across_from (Some pair) i j (inl e) = or_left _ _ (and_from _ _ e.0 e.1)
  across_from (Some pair) i j (inr e) = or_right _ _ (and_from _ _ e.0 e.1)

  across_turn : (pair : Option (ℕ × ℕ)) (i j : ℕ) → Across pair i j → Across pair j i
  across_turn None i j h = h
  across_turn (Some pair) i j (inl e) = inr (e.1, e.0)
  across_turn (Some pair) i j (inr e) = inl (e.1, e.0)

  across_low : (pair : Option (ℕ × ℕ)) (i j : ℕ) → Across pair i j → i < m.size
  across_low None i j h = absurd h
  across_low (Some pair) i j (inl e) = (same_low m i pair.0 e.0).0
  across_low (Some pair) i j (inr e) = (same_low m i pair.1 e.0).0

  -- what the arrangement with the pair relates
  abbrev Related : Option (ℕ × ℕ) → ℕ → ℕ → Type 0
  Related pair i j = Same i j ⊎ Across pair i j

  module _ (pair : Option (ℕ × ℕ)) (i j : ℕ) where
    related_has : (same m i j || across m pair i j) ≡ true → Related pair i j
    related_has h =
        elim (or_cases (same m i j) (across m pair i j) h) [ inl e ↦ inl e | inr e ↦ inr (across_has pair i j e) ]

    related_from : Related pair i j → (same m i j || across m pair i j) ≡ true
    related_from (inl e) = or_left _ _ e
    related_from (inr e) = or_right (same m i j) _ (across_from pair i j e)

    related_low : Related pair i j → (i < m.size) × (j < m.size)
    related_low (inl e) = same_low m i j e
    related_low (inr e) = (across_low pair i j e, across_low pair j i (across_turn pair i j e))

    -- only names are related, so `same` says the same
    pub joined_same : (same m i j || across m pair i j) ≡ same (joined_meaning m pair) i j
    joined_same =
        let above = joined_meaning m pair in
        same_answer (same m i j || across m pair i j) (same above i j)
        (λ h. let names = related_low (related_has h) in same_from above i j names.0 names.1 h)
        (λ h. same_related above i j h)

  module _ (law : Lawful m) where
    -- two that are the same as a third
    meet : (p i k : ℕ) → Same i p → Same k p → Same i k
    meet p i k a b = law.through i p k a (law.back k p b)

    -- across twice, the same way round
    again : (p q i j k : ℕ) → Ends p q i j → Ends p q j k → Same i k
    again p q i j k a b = law.through i j k (meet p i j a.0 b.0) (meet q j k a.1 b.1)

    across_twice : (pair : Option (ℕ × ℕ)) (i j k : ℕ) → Across pair i j → Across pair j k → Same i k
    across_twice None i j k a b = absurd a
    across_twice (Some pair) i j k (inl a) (inl b) = again pair.0 pair.1 i j k a b
    across_twice (Some pair) i j k (inl a) (inr b) = meet pair.0 i k a.0 b.1
    across_twice (Some pair) i j k (inr a) (inl b) = meet pair.1 i k a.0 b.1
    across_twice (Some pair) i j k (inr a) (inr b) = again pair.1 pair.0 i j k a b

    -- across from a name that is the same
    across_after : (pair : Option (ℕ × ℕ)) (i j k : ℕ) → Same i j → Across pair j k → Across pair i k
    across_after None i j k s h = h
    across_after (Some pair) i j k s (inl e) = inl (law.through i j pair.0 s e.0, e.1)
    across_after (Some pair) i j k s (inr e) = inr (law.through i j pair.1 s e.0, e.1)

    turn : (pair : Option (ℕ × ℕ)) (i j : ℕ) → Related pair i j → Related pair j i
    turn pair i j (inl e) = inl (law.back i j e)
    turn pair i j (inr e) = inr (across_turn pair i j e)

    through : (pair : Option (ℕ × ℕ)) (i j k : ℕ) → Related pair i j → Related pair j k → Related pair i k
    through pair i j k (inl a) (inl b) = inl (law.through i j k a b)
    through pair i j k (inl a) (inr b) = inr (across_after pair i j k a b)
    through pair i j k (inr a) (inl b) =
        inr (across_turn pair k i (across_after pair k j i (law.back j k b) (across_turn pair i j a)))
    through pair i j k (inr a) (inr b) = inl (across_twice pair i j k a b)

    pub joined_lawful : (pair : Option (ℕ × ℕ)) → Lawful (joined_meaning m pair)
    joined_lawful pair =
        lawful_from (joined_meaning m pair) law.small
        (λ i l. related_from pair i i (inl (law.itself i l)))
        (λ i j h. related_from pair j i (turn pair i j (related_has pair i j h)))
        (λ i j k h g. related_from pair i k (through pair i j k (related_has pair i j h) (related_has pair j k g)))

-- the answer, from that of the arrangement below
pub joined_or : (m : Meaning) (pair : Option (ℕ × ℕ)) (i j : ℕ) (below : Bool) → below ≡ same m i j → (below || across m pair i j) ≡ same (joined_meaning m pair) i j
joined_or m pair i j below e = ap (λ b. b || across m pair i j) e ∙ joined_same m pair i j

-- the laws of each of many with a pair over it, from the laws of those below
pub joined_each : {X : Type 0} (meaning : X → Meaning)
    → ((x : X) → (meaning x).size ≤ 64)
    → ((x : X) (i : ℕ) → i < (meaning x).size → same (meaning x) i i ≡ true)
    → ((x : X) (i j : ℕ) → same (meaning x) i j ≡ true → same (meaning x) j i ≡ true)
    → ((x : X) (i j k : ℕ) → same (meaning x) i j ≡ true → same (meaning x) j k ≡ true → same (meaning x) i k ≡ true)
    → (x : X) (pair : Option (ℕ × ℕ)) → Lawful (joined_meaning (meaning x) pair)
joined_each meaning small itself back through x pair =
    joined_lawful (meaning x) (lawful_each meaning small itself back through x) pair
