-- What holds of every bounded list. It stands in specs/, since laws of other crates cite it.
use Rattle.std.specs.Prelude.{◌≡◌, ℕ, ◌≤◌, Bool, true, false, cond, List, [], ◌∷◌, ◌++◌, length, is_ok, Ok, Err, Result, nat_lt, refl}
use Rattle.std.proofs.Common.{sym, ap, ◌∙◌, arith}
use Rattle.std.proofs.lemmas.Bool.{false≢true}
use Rattle.std.proofs.lemmas.List.{length-take-le}
use Rattle.bounded.specs.declared.list.Bounded.{Bounded}
use Rattle.bounded.specs.declared.list.Full.{Full}
use Rattle.bounded.specs.Items.{items_of, push_answer, pushed}

pub few : {T : Type 0} {n : ℕ} (x : Bounded T n) → length (items_of x) ≤ n
few x = omega (arith, length-take-le x.len x.slots (omega (arith, x.fits, x.long)), x.fits)

-- an item that is not refused is the last
module _ {T : Type 0} (n : ℕ) (xs : List T) (x : T) where
  abbrev answered : Bool → Result (Unit {0}) Full
  answered room = cond room (Ok tt) (Err (record {}))

  fits : (room : Bool) → is_ok (answered room) ≡ true → cond room (xs ++ (x ∷ [])) xs ≡ xs ++ (x ∷ [])
  fits true ok = refl
  fits false ok = absurd (false≢true ok)

  pub pushed_last : (r : Result (Unit {0}) Full) → r ≡ push_answer n xs → is_ok r ≡ true → pushed n xs x ≡ xs ++ (x ∷ [])
  pushed_last r is ok = fits (nat_lt (length xs) n) (sym (ap is_ok is) ∙ ok)
