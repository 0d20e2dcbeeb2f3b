-- What stored lowest names mean.
use Rattle.std.specs.Prelude.{ℕ, cond, Some, None, Option, nat_lt}
use Rattle.bounded.specs.Items.{items_of}
use Rattle.arrangement.specs.declared.classes.Classes.{Classes}
use Rattle.arrangement.specs.Meaning.{Meaning, lowest}
use Rattle.arrangement.specs.Numbers.{assigned_meaning}

-- names are the same where the names stored for them are equal
abbrev pub classes_meaning : Classes → Meaning
classes_meaning c = assigned_meaning (items_of c.lowest)

-- the lowest name that is the same as i, where i is a name
abbrev pub lowest_of : Meaning → ℕ → Option ℕ
lowest_of m i = cond (nat_lt i m.size) (Some (lowest m i)) None
