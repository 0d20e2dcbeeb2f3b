-- What is cited is to blame, and all of it is needed.
use Rattle.std.proofs.Common.{◌≡◌, ℕ, zero, suc, ◌+◌, ◌-◌, ◌<◌, ◌≤◌, Bool, true, false, cond, List, [], ◌∷◌, ◌++◌, length, take, drop, sym, refl, ap, ◌∙◌, subst, inl, inr, append_assoc, arith}
use Rattle.std.proofs.lemmas.List.{length_push}
use Rattle.std.proofs.lemmas.Bool.{both_ways}
use Rattle.links.specs.Lists.{Member}
use Rattle.statement.specs.declared.Statement.{Statement}
use Rattle.meaning.specs.Answers.{at_positions, cited, staying}
use Rattle.meaning.specs.Columns.{test}
use Rattle.meaning.specs.Fillings.{Fillable, Named, Orderly, Setting}
use Rattle.meaning.specs.Theorems.{Blames, CitedIsToBlame, Likewise, PartsFit, Rising, Within, omit}
use Rattle.meaning.proofs.Deciding.{fillable_passes, never_fails, passes_fillable}
use Rattle.meaning.proofs.Lists.{after_within, omit_within, within_more}
use Rattle.meaning.proofs.Transfer.{carried}

-- what fits a list fits a part of it
part_fits : (w : Setting) (xs ys : List Statement) → Within xs ys → Fillable w ys → Fillable w xs
part_fits w xs ys within f = (
  f.0,
  record { slots = f.1.slots; readings = f.1.readings; fits = λ x m. f.1.fits x (within x m) },
)

pub parts_fit : PartsFit
parts_fit = record {
  part = part_fits;
  order = λ w xs ys there back. (part_fits w ys xs back, part_fits w xs ys there);
}

-- What stays of a list, and where it stands.
module _ {X : Type 0} (fits : List X → Bool) where
  -- what stands at the positions that stay
  abbrev kept : List X → List X → List X
  kept before [] = []
  kept before (x ∷ rest) =
      let stays = fits (before ++ rest) in
      let later = kept (cond stays (before ++ x ∷ []) before) rest in
      cond stays (x ∷ later) later

  kept_within : (before rest : List X) → Within (kept before rest) rest
  kept_within before [] x m = elim m [ ]
  kept_within before (y ∷ rest) x m =
      go (fits (before ++ rest)) (λ b. kept_within (cond b (before ++ y ∷ []) before) rest x) m
    where
      go : (b : Bool) → ((b : Bool) → Member x (kept (cond b (before ++ y ∷ []) before) rest) → Member x rest)
          → Member x (cond b (y ∷ kept (cond b (before ++ y ∷ []) before) rest) (kept (cond b (before ++ y ∷ []) before) rest)) → Member x (y ∷ rest)
      go true ih (inl e) = inl e
      go true ih (inr k) = inr (ih true k)
      go false ih k = inr (ih false k)

  -- where the whole does not fit, what is kept does not either
  kept_fails : (before rest : List X) → fits (before ++ rest) ≡ false → fits (before ++ kept before rest) ≡ false
  kept_fails before [] h = h
  kept_fails before (y ∷ rest) h =
      go (fits (before ++ rest)) refl (λ b. kept_fails (cond b (before ++ y ∷ []) before) rest)
    where
      after : (b : Bool) → List X
      after b = kept (cond b (before ++ y ∷ []) before) rest

      go : (b : Bool) → fits (before ++ rest) ≡ b
          → ((b : Bool) → fits (cond b (before ++ y ∷ []) before ++ rest) ≡ false → fits (cond b (before ++ y ∷ []) before ++ after b) ≡ false)
          → fits (before ++ cond b (y ∷ after b) (after b)) ≡ false
      go true e ih =
          subst (λ ys. fits ys ≡ false) (append_assoc before (y ∷ []) (after true))
          (ih true (subst (λ ys. fits ys ≡ false) (sym (append_assoc before (y ∷ []) rest)) h))
      go false e ih = ih false e

  -- where a part of what fits fits, what is kept fits once one is omitted
  module _ (all : List X) (fewer : (xs ys : List X) → Within xs ys → Within ys all → fits ys ≡ true → fits xs ≡ true) where
    kept_minimal : (before rest : List X) → Within (before ++ rest) all → (i : ℕ) → i < length (kept before rest)
        → fits (before ++ omit i (kept before rest)) ≡ true
    kept_minimal before [] w i l = absurd (omega arith)
    kept_minimal before (y ∷ rest) w i l =
        go (fits (before ++ rest)) refl (λ b v. kept_minimal (cond b (before ++ y ∷ []) before) rest v) i l
      where
        after : (b : Bool) → List X
        after b = kept (cond b (before ++ y ∷ []) before) rest

        w_rest : Within (before ++ rest) all
        w_rest x m = w x (after_within before rest (y ∷ rest) (λ x m. inr m) x m)

        w_all : Within ((before ++ y ∷ []) ++ rest) all
        w_all = subst (λ ys. Within ys all) (sym (append_assoc before (y ∷ []) rest)) w

        go : (b : Bool) → fits (before ++ rest) ≡ b
            → ((b : Bool) → Within (cond b (before ++ y ∷ []) before ++ rest) all → (i : ℕ) → i < length (after b)
            → fits (cond b (before ++ y ∷ []) before ++ omit i (after b)) ≡ true)
            → (i : ℕ) → i < length (cond b (y ∷ after b) (after b)) → fits (before ++ omit i (cond b (y ∷ after b) (after b))) ≡ true
        go true e ih zero l =
            fewer (before ++ after true) (before ++ rest)
            (after_within before (after true) rest (kept_within (before ++ y ∷ []) rest)) w_rest e
        go true e ih (suc i) l =
            subst (λ ys. fits ys ≡ true) (append_assoc before (y ∷ []) (omit i (after true))) (ih true w_all i (omega arith))
        go false e ih i l = ih false w_rest i l

module _ {X : Type 0} where
  -- each position has the element of the other list
  abbrev Reads : List X → List ℕ → List X → Type 0
  Reads xs [] [] = Unit {0}
  Reads xs [] (y ∷ ys) = ⊥
  Reads xs (p ∷ ps) [] = ⊥
  Reads xs (p ∷ ps) (y ∷ ys) = (take 1 (drop (p - 1) xs) ≡ y ∷ []) × Reads xs ps ys

  reads_at : (xs : List X) (ps : List ℕ) (ys : List X) → Reads xs ps ys → at_positions xs ps ≡ ys
  reads_at xs [] [] h = refl
  reads_at xs [] (y ∷ ys) h = absurd h
  reads_at xs (p ∷ ps) [] h = absurd h
  reads_at xs (p ∷ ps) (y ∷ ys) h = ap (λ l. l ++ at_positions xs ps) h.0 ∙ ap (λ l. y ∷ l) (reads_at xs ps ys h.1)

  reads_length : (xs : List X) (ps : List ℕ) (ys : List X) → Reads xs ps ys → length ps ≡ length ys
  reads_length xs [] [] h = refl
  reads_length xs [] (y ∷ ys) h = absurd h
  reads_length xs (p ∷ ps) [] h = absurd h
  reads_length xs (p ∷ ps) (y ∷ ys) h = ap suc (reads_length xs ps ys h.1)

  reads_omit : (xs : List X) (i : ℕ) (ps : List ℕ) (ys : List X) → Reads xs ps ys → Reads xs (omit i ps) (omit i ys)
  reads_omit xs i [] [] h = tt
  reads_omit xs i [] (y ∷ ys) h = absurd h
  reads_omit xs i (p ∷ ps) [] h = absurd h
  reads_omit xs zero (p ∷ ps) (y ∷ ys) h = h.1
  reads_omit xs (suc i) (p ∷ ps) (y ∷ ys) h = (h.0, reads_omit xs i ps ys h.1)

  at_there : (done : List X) (y : X) (rest : List X) → take 1 (drop (length done) (done ++ y ∷ rest)) ≡ y ∷ []
  at_there [] y rest = refl
  at_there (x ∷ done) y rest = at_there done y rest

  at_here : (done : List X) (y : X) (rest : List X) (n : ℕ) → suc (length done) ≡ n → take 1 (drop (n - 1) (done ++ y ∷ rest)) ≡ y ∷ []
  at_here done y rest n e =
      let q : n - 1 ≡ length done = omega arith in
      ap (λ (k : ℕ). take 1 (drop k (done ++ y ∷ rest))) q ∙ at_there done y rest

  -- what stays stands at the positions that stay
  staying_reads : (fits : List X → Bool) (before done rest : List X) (n : ℕ) → suc (length done) ≡ n
      → Reads (done ++ rest) (staying fits before n rest) (kept fits before rest)
  staying_reads fits before done [] n e = tt
  staying_reads fits before done (y ∷ rest) n e =
      go (fits (before ++ rest))
      (λ b. subst (λ l. Reads l (staying fits b (suc n) rest) (kept fits b rest)) (append_assoc done (y ∷ []) rest)
      (staying_reads fits b (done ++ y ∷ []) rest (suc n) (omega (arith, length_push done y))))
    where
      go : (t : Bool) → ((b : List X) → Reads (done ++ y ∷ rest) (staying fits b (suc n) rest) (kept fits b rest))
          → Reads (done ++ y ∷ rest)
          (cond t (n ∷ staying fits (cond t (before ++ y ∷ []) before) (suc n) rest) (staying fits (cond t (before ++ y ∷ []) before) (suc n) rest))
          (cond t (y ∷ kept fits (cond t (before ++ y ∷ []) before) rest) (kept fits (cond t (before ++ y ∷ []) before) rest))
      go true ih = (at_here done y rest n e, ih (before ++ y ∷ []))
      go false ih = ih before

  -- the positions rise
  staying_rising : (fits : List X → Bool) (before rest : List X) (low n high : ℕ) → low < n → n + length rest ≤ suc high
      → Rising low high (staying fits before n rest)
  staying_rising fits before [] low n high l u = tt
  staying_rising fits before (y ∷ rest) low n high l u =
      go (fits (before ++ rest)) (λ b m k. staying_rising fits (cond b (before ++ y ∷ []) before) rest m (suc n) high k (omega arith))
    where
      go : (t : Bool) → ((b : Bool) (m : ℕ) → m < suc n → Rising m high (staying fits (cond b (before ++ y ∷ []) before) (suc n) rest))
          → Rising low high
          (cond t (n ∷ staying fits (cond t (before ++ y ∷ []) before) (suc n) rest) (staying fits (cond t (before ++ y ∷ []) before) (suc n) rest))
      go true ih = (l, omega arith, ih true n (omega arith))
      go false ih = ih false low (omega arith)

module _ (w : Setting) (laws : Orderly w) (xs : List Statement) (offered : Statement) (named : Named w (offered ∷ xs)) where
  abbrev fits : List Statement → Bool
  fits ys = test w (offered ∷ ys)

  named_part : (ys : List Statement) → Within ys xs → Named w (offered ∷ ys)
  named_part ys within x m = named x (within_more offered ys xs within x m)

  pub fewer_fit : (ys zs : List Statement) → Within ys zs → Within zs xs → fits zs ≡ true → fits ys ≡ true
  fewer_fit ys zs v u h =
      fillable_passes w laws (offered ∷ ys) (named_part ys (λ x m. u x (v x m)))
      (part_fits w (offered ∷ ys) (offered ∷ zs) (within_more offered ys zs v) (passes_fillable w laws (offered ∷ zs) (named_part zs u) h))

  module _ (never : ¬ Fillable w (offered ∷ xs)) where
    abbrev stay : List Statement
    stay = kept fits [] xs

    stay_within : Within stay xs
    stay_within = kept_within fits [] xs

    against : (w' : Setting) → Likewise w w' (offered ∷ stay) → ¬ Fillable w' (offered ∷ stay)
    against w' alike f =
        both_ways (fits stay) (kept_fails fits [] xs (never_fails w laws (offered ∷ xs) named never))
        (fillable_passes w laws (offered ∷ stay) (named_part stay stay_within)
        (carried w w' (offered ∷ stay) laws.slots laws.readings alike f))

    minimal : (i : ℕ) → i < length stay → Fillable w (offered ∷ omit i stay)
    minimal i l =
        passes_fillable w laws (offered ∷ omit i stay) (named_part (omit i stay) (λ x m. stay_within x (omit_within i stay x m)))
        (kept_minimal fits xs fewer_fit [] xs (λ x m. m) i l)

    blames : Blames w xs offered (cited w xs offered)
    unfolding cited
    blames =
        let ps = cited w xs offered in
        let reads : Reads xs ps stay = staying_reads fits [] [] xs 1 refl in
        let whole : at_positions xs ps ≡ stay = reads_at xs ps stay reads in
        record {
          rising = staying_rising fits [] xs 0 1 (length xs) (omega arith) (omega arith);
          against = λ w' alike f.
              against w' (subst (λ (ys : List Statement). Likewise w w' (offered ∷ ys)) whole alike)
              (subst (λ (ys : List Statement). Fillable w' (offered ∷ ys)) whole f);
          minimal = λ i l.
              let less : at_positions xs (omit i ps) ≡ omit i stay = reads_at xs (omit i ps) (omit i stay) (reads_omit xs i ps stay reads) in
              subst (λ (ys : List Statement). Fillable w (offered ∷ ys)) (sym less)
              (minimal i (omega (arith, reads_length xs ps stay reads)));
        }

pub cited_is_to_blame : CitedIsToBlame
cited_is_to_blame w laws xs offered named never = blames w laws xs offered named never
