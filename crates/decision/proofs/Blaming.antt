-- The statements to blame, found one after the other.
use Rattle.std.proofs.Common.{◌≡◌, ℕ, ◌+◌, ◌-◌, ◌<◌, Bool, true, false, List, [], ◌∷◌, ◌++◌, length, get_or, take, drop, Some, None, Option, sym, refl, ap, ◌∙◌, subst, subst₂, arith}
use Rattle.std.specs.List.{range_with_len}
use Rattle.std.proofs.lemmas.List.{append_assoc, append-nil, drop-drop, drop_more, get_or-drop, length-drop, take_rest}
use Rattle.std.proofs.lemmas.Bool.{and_parts}
use Rattle.links.specs.Lists.{Member}
use Rattle.links.proofs.Lists.{member_right}
use Rattle.arrangement.specs.Kept.{lawful}
use Rattle.statement.specs.declared.Statement.{Statement}
use Rattle.meaning.specs.Answers.{cited, staying}
use Rattle.meaning.specs.Fillings.{Orderly, Setting}
use Rattle.meaning.specs.Theorems.{Within}
use Rattle.meaning.proofs.Blame.{fewer_fit}
use Rattle.meaning.proofs.Lists.{after_within, within_more}
use Rattle.column.specs.declared.naming.Naming.{Naming}
use Rattle.column.specs.Naming.{setting_of}
use Rattle.column.specs.Sights.{Readable, given}
use Rattle.decision.specs.Citations.{Found, Turns, fitting}
use Rattle.decision.proofs.Halving.{drop_within, staying_all, staying_none, staying_turn}

-- a part of what is readable is
pub readable_part : (w : Setting) (offered : Statement) (xs ys : List Statement) → Within xs ys → Readable w (offered ∷ ys)
    → Readable w (offered ∷ xs)
readable_part w offered xs ys v r x m = r x (within_more offered xs ys v x m)

-- what a part of a slice is lent, from place i on, can be read with those kept
pub readable_later : (w : Setting) (offered : Statement) (kept rest : List Statement) (i : ℕ) → Readable w (given offered kept rest)
    → Readable w (given offered kept (take (length rest - i) (drop i rest)))
readable_later w offered kept rest i r =
    rw take_rest (readable_part w offered (kept ++ drop i rest) (kept ++ rest) (after_within kept (drop i rest) rest (drop_within i rest)) r)

-- and the rest with none kept
pub readable_rest : (w : Setting) (offered : Statement) (kept rest : List Statement) → Readable w (given offered kept rest)
    → Readable w (offered ∷ rest)
readable_rest w offered kept rest r = readable_part w offered rest (kept ++ rest) (λ x m. member_right x kept rest m) r

-- The positions found so far are `ps`, the statements there are `kept`, and the others to blame stand from place p on.
pub record Blaming (w : Setting) (offered : Statement) (list : List Statement) (ps : List ℕ) (kept : List Statement) (p : ℕ) : Type 0 where
  pub whole : cited w list offered ≡ ps ++ staying (fitting w offered) kept (p + 1) (drop p list)
  pub fails : fitting w offered (kept ++ drop p list) ≡ false
  pub within : Within (kept ++ drop p list) list

pub blaming_none : (w : Setting) (offered : Statement) (list : List Statement) (ps : List ℕ) (kept : List Statement) → fitting w offered list ≡ false
    → ps ≡ [] → kept ≡ [] → Blaming w offered list ps kept 0
unfolding cited
blaming_none w offered list ps kept h no_ps no_kept =
    rw (no_ps, no_kept) (record { whole = refl; fails = h; within = λ x m. m })

module _ (naming : Naming) (offered : Statement) (list : List Statement) (readable : Readable (setting_of naming) (offered ∷ list)) where
  abbrev w : Setting
  w = setting_of naming

  abbrev fits : List Statement → Bool
  fits = fitting w offered

  orderly : Orderly w
  orderly = record { slots = lawful naming.slots; readings = lawful naming.readings }

  fewer : (xs ys : List Statement) → Within xs ys → Within ys list → fits ys ≡ true → fits xs ≡ true
  fewer = fewer_fit w orderly list offered (λ x m. (and_parts _ _ (readable x m)).1)

  -- where all fit, all are cited
  pub cited_all : fits list ≡ true → cited w list offered ≡ range_with_len 1 (length list)
  unfolding cited
  cited_all h = staying_all fits list fewer [] list 1 (λ x m. m) h

  -- The search for the next is lent the kept statements and the rest.
  module _ (ps : List ℕ) (kept : List Statement) (p : ℕ) (b : Blaming w offered list ps kept p) (kept' : List Statement) (same : kept' ≡ kept) where
    abbrev rest' : List Statement
    rest' = take (length list - p) (drop p list)

    pub lent_readable : Readable w (given offered kept' rest')
    lent_readable = rw (same, take_rest) (readable_part w offered (kept ++ drop p list) list b.within readable)

    found_in : (answer : Option ℕ) → Found fits kept' rest' answer → Found fits kept (drop p list) answer
    found_in answer found =
        subst₂ (λ (ks ys : List Statement). Found fits ks ys answer) same (take_rest list p) found

    -- once none is found, all that are to blame are kept
    pub blaming_all : Found fits kept' rest' None → cited w list offered ≡ ps
    blaming_all found =
        b.whole
        ∙ ap (λ qs. ps ++ qs) (staying_none fits list fewer kept (drop p list) (p + 1) b.within (found_in None found))
        ∙ append-nil ps

    module _ (i : ℕ) (d : Statement) (l : p + i < length list) (found : Found fits kept' rest' (Some i)) where
      turns : Turns fits kept (drop p list) i
      turns = found_in (Some i) found

      in_rest : i < length (drop p list)
      in_rest = omega (arith, length-drop p list)

      -- the place after the one found; it is the position too, since positions count from 1
      abbrev q : ℕ
      q = p + (i + 1)

      abbrev more : List Statement
      more = kept ++ get_or list (p + i) d ∷ []

      here : get_or (drop p list) i d ≡ get_or list (p + i) d
      here = get_or-drop p list i d

      later : drop (i + 1) (drop p list) ≡ drop q list
      later = drop-drop (i + 1) p list

      from_here : drop i (drop p list) ≡ get_or list (p + i) d ∷ drop q list
      from_here =
          drop_more (drop p list) i d in_rest
          ∙ ap (λ x. x ∷ drop (i + 1) (drop p list)) here
          ∙ ap (λ ys. get_or list (p + i) d ∷ ys) later

      again : more ++ drop q list ≡ kept ++ drop i (drop p list)
      again = append_assoc kept (get_or list (p + i) d ∷ []) (drop q list) ∙ ap (λ ys. kept ++ ys) (sym from_here)

      stays : staying fits kept (p + 1) (drop p list) ≡ q ∷ staying fits more (q + 1) (drop q list)
      stays =
          staying_turn fits list fewer kept (drop p list) (p + 1) i q d (omega arith) in_rest b.within turns
          ∙ ap (λ x. q ∷ staying fits (kept ++ x ∷ []) (q + 1) (drop (i + 1) (drop p list))) here
          ∙ ap (λ ys. q ∷ staying fits more (q + 1) ys) later

      -- the one found is kept
      pub blaming_more : Blaming w offered list (ps ++ q ∷ []) more q
      blaming_more = record {
        whole = b.whole ∙ ap (λ qs. ps ++ qs) stays ∙ sym (append_assoc ps (q ∷ []) (staying fits more (q + 1) (drop q list)));
        fails = ap fits again ∙ turns.fails;
        within = λ x m.
            b.within x (after_within kept (drop i (drop p list)) (drop p list) (drop_within i (drop p list)) x (subst (Member x) again m));
      }
