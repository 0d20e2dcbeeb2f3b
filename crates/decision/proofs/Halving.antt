-- What stays of a list, found by halving.
use Rattle.std.proofs.Common.{◌≡◌, ℕ, suc, ◌+◌, ◌<◌, Bool, true, false, cond, List, [], ◌∷◌, ◌++◌, length, get_or, take, drop, sym, refl, ap, ◌∙◌, subst, inl, inr, arith}
use Rattle.std.specs.List.{range_with_len}
use Rattle.std.proofs.lemmas.List.{append_assoc, append-nil, drop_more, length-take-le, take-append-drop}
use Rattle.std.proofs.lemmas.Bool.{both_ways, cases_Bool}
use Rattle.links.specs.Lists.{Member}
use Rattle.links.proofs.Lists.{member_right}
use Rattle.meaning.specs.Answers.{staying}
use Rattle.meaning.specs.Theorems.{Within}
use Rattle.meaning.proofs.Lists.{after_within}
use Rattle.decision.specs.Citations.{Turns}

module _ {X : Type 0} where
  pub drop_within : (i : ℕ) (xs : List X) → Within (drop i xs) xs
  drop_within i xs x m = subst (Member x) (take-append-drop i xs) (member_right x (take i xs) (drop i xs) m)

  -- one step of the pass
  module _ (fits : List X → Bool) (before : List X) (n : ℕ) (x : X) (rest : List X) where
    staying_omits : fits (before ++ rest) ≡ false → staying fits before n (x ∷ rest) ≡ staying fits before (suc n) rest
    staying_omits h =
        ap (λ b. let later = staying fits (cond b (before ++ x ∷ []) before) (suc n) rest in cond b (n ∷ later) later) h

    staying_keeps : fits (before ++ rest) ≡ true
        → staying fits before n (x ∷ rest) ≡ n ∷ staying fits (before ++ x ∷ []) (suc n) rest
    staying_keeps h =
        ap (λ b. let later = staying fits (cond b (before ++ x ∷ []) before) (suc n) rest in cond b (n ∷ later) later) h

  -- where a part of what fits fits
  module _ (fits : List X → Bool) (all : List X)
      (fewer : (xs ys : List X) → Within xs ys → Within ys all → fits ys ≡ true → fits xs ≡ true) where
    fails_more : (xs ys : List X) → Within xs ys → Within ys all → fits xs ≡ false → fits ys ≡ false
    fails_more xs ys v w h =
        elim (cases_Bool (fits ys)) [
          | inl e ↦ absurd (both_ways (fits xs) h (fewer xs ys v w e))
          | inr e ↦ e
        ]

    -- what stands before a rest that does not fit is left out
    staying_skips : (before front rest : List X) (n : ℕ) → Within (before ++ (front ++ rest)) all → fits (before ++ rest) ≡ false
        → staying fits before n (front ++ rest) ≡ staying fits before (n + length front) rest
    staying_skips before [] rest n w h = let e : n ≡ n + 0 = omega arith in ap (λ k. staying fits before k rest) e
    staying_skips before (x ∷ front) rest n w h =
        let within : Within (before ++ (front ++ rest)) all =
        λ y m. w y (after_within before (front ++ rest) (x ∷ (front ++ rest)) (λ y m. inr m) y m) in
        let fails = fails_more (before ++ rest) (before ++ (front ++ rest))
        (after_within before rest (front ++ rest) (λ y m. member_right y front rest m)) within h in
        let e : suc n + length front ≡ n + suc (length front) = omega arith in
        staying_omits fits before n x (front ++ rest) fails
        ∙ staying_skips before front rest (suc n) within h
        ∙ ap (λ k. staying fits before k rest) e

    -- where those kept do not fit by themselves, nothing more stays
    pub staying_none : (before rest : List X) (n : ℕ) → Within (before ++ rest) all → fits (before ++ []) ≡ false
        → staying fits before n rest ≡ []
    staying_none before rest n w h =
        ap (staying fits before n) (sym (append-nil rest))
        ∙ staying_skips before rest [] n (subst (λ ys. Within (before ++ ys) all) (sym (append-nil rest)) w) h

    -- where all fits, everything stays
    pub staying_all : (before rest : List X) (n : ℕ) → Within (before ++ rest) all → fits (before ++ rest) ≡ true
        → staying fits before n rest ≡ range_with_len n (length rest)
    staying_all before [] n w h = refl
    staying_all before (x ∷ rest) n w h =
        let again = append_assoc before (x ∷ []) rest in
        let fit = fewer (before ++ rest) (before ++ x ∷ rest) (after_within before rest (x ∷ rest) (λ y m. inr m)) w h in
        let e : suc n ≡ n + 1 = omega arith in
        staying_keeps fits before n x rest fit
        ∙ ap (λ ps. n ∷ ps)
        (staying_all (before ++ x ∷ []) rest (suc n) (subst (λ ys. Within ys all) (sym again) w) (ap fits again ∙ h)
        ∙ ap (λ k. range_with_len k (length rest)) e)

    -- the place where the rest turns stays, and what stands before it is left out
    pub staying_turn : (before rest : List X) (n i m : ℕ) (d : X) → n + i ≡ m → i < length rest → Within (before ++ rest) all
        → Turns fits before rest i
        → staying fits before n rest ≡ m ∷ staying fits (before ++ get_or rest i d ∷ []) (m + 1) (drop (i + 1) rest)
    staying_turn before rest n i m d e l w t =
        let parts = sym (take-append-drop i rest) in
        let many : n + length (take i rest) ≡ m = omega (arith, length-take-le i rest (omega arith)) in
        let next : suc m ≡ m + 1 = omega arith in
        ap (staying fits before n) parts
        ∙ staying_skips before (take i rest) (drop i rest) n (subst (λ ys. Within (before ++ ys) all) parts w) t.fails
        ∙ ap (λ k. staying fits before k (drop i rest)) many
        ∙ ap (staying fits before m) (drop_more rest i d l)
        ∙ staying_keeps fits before m (get_or rest i d) (drop (i + 1) rest) t.passes
        ∙ ap (λ k. m ∷ staying fits (before ++ get_or rest i d ∷ []) k (drop (i + 1) rest)) next
