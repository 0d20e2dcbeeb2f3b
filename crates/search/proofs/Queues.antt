-- What a push and a pop do to the slots that wait.
use Rattle.std.proofs.Common.{◌≡◌, ℕ, zero, suc, ◌+◌, ◌-◌, ◌<◌, List, [], ◌∷◌, ◌++◌, length, get_or, take, drop, set, Some, sym, ap, ◌∙◌, arith, length-drop}
use Rattle.std.proofs.lemmas.List.{drop-set-add, take_more_set, drop_more}
use Rattle.std.proofs.lemmas.Bool.{cond-true, lt-ltb}
use Rattle.search.specs.Lines.{first_of, pushed, rest_of}

take_cons : {E : Type 0} (c : ℕ) (x : E) (xs : List E) → 0 < c → take c (x ∷ xs) ≡ x ∷ take (c - 1) xs
take_cons zero x xs some = absurd (omega arith)
take_cons (suc c) x xs some = ap (λ n. x ∷ take n xs) (omega arith)

-- `count` slots of xs from `head` on
module _ {E : Type 0} (xs : List E) (head count : ℕ) where
  abbrev waits : List E
  waits = take count (drop head xs)

  pub push_waits : (e : E) → count < length xs - head → take (count + 1) (drop head (set xs (head + count) e)) ≡ pushed (length xs - head - count) waits e
  push_waits e some =
      ap (take (count + 1)) (drop-set-add head xs count e) ∙ take_more_set (drop head xs) count e (simp length-drop some)
      ∙ sym (cond-true _ (waits ++ (e ∷ [])) waits (lt-ltb 0 (length xs - head - count) (omega arith)))

  pub pop_waits : (e : E) → 0 < count → head < length xs → waits ≡ get_or xs head e ∷ take (count - 1) (drop (head + 1) xs)
  pop_waits e some inside = ap (take count) (drop_more xs head e inside) ∙ take_cons count (get_or xs head e) (drop (head + 1) xs) some

-- what is popped stood first
pub popped_some : {E : Type 0} (W V : List E) (e : E) → Some e ≡ first_of W → V ≡ rest_of W → W ≡ e ∷ V
popped_some [] V e f r = cc
popped_some (x ∷ xs) V e f r = cc
