-- What statements mean. A filling says what every table holds at every slot. Statements can all be true exactly when one
-- filling fits them all.
use Rattle.std.specs.Prelude.{◌≡◌, ℕ, ◌<◌, Bool, true, ◌&&◌, ◌↔◌, List, [], ◌∷◌, Some, None, Option, nat_lt}
use Rattle.std.specs.List.{list_all}
use Rattle.links.specs.Lists.{Member}
use Rattle.arrangement.specs.Meaning.{Meaning, Lawful, same}
use Rattle.statement.specs.declared.Statement.{Statement}
use Rattle.statement.specs.declared.Statement.TheVariants.{W, R, E, D}

-- the arrangements under which statements are read: which slot names are the same, and which reading names
pub record Setting : Type 0 where
  pub slots : Meaning
  pub readings : Meaning

pub record Orderly (w : Setting) : Type 0 where
  pub slots : Lawful w.slots
  pub readings : Lawful w.readings

-- a number for each slot name and for each reading name, and what each table holds at each slot number, without end
pub record Filling : Type 0 where
  pub slot : ℕ → ℕ
  pub reading : ℕ → ℕ
  pub holds : ℕ → ℕ → ℕ

-- names have equal numbers exactly where they are the same
abbrev pub Numbered : Meaning → (ℕ → ℕ) → Type 0
Numbered m number = (i j : ℕ) → i < m.size → j < m.size → (number i ≡ number j) ↔ (same m i j ≡ true)

-- the tables hold the same at every slot number; at every one but n
abbrev pub Equal : Filling → ℕ → ℕ → Type 0
Equal f a b = (k : ℕ) → f.holds a k ≡ f.holds b k

abbrev pub EqualBut : ℕ → Filling → ℕ → ℕ → Type 0
EqualBut n f a b = (k : ℕ) → ¬ (k ≡ n) → f.holds a k ≡ f.holds b k

-- what the statement says is true of the filling
abbrev pub Fits : Filling → Statement → Type 0
Fits f (W b a i v) = (f.holds b.0 (f.slot i.0) ≡ f.reading v.0) × EqualBut (f.slot i.0) f b.0 a.0
Fits f (R a i v) = f.holds a.0 (f.slot i.0) ≡ f.reading v.0
Fits f (E a b) = Equal f a.0 b.0
Fits f (D a b) = ¬ Equal f a.0 b.0

-- the filling's numbers are as the arrangements say, and it fits every statement of the list
pub record FitsAll (w : Setting) (xs : List Statement) (f : Filling) : Type 0 where
  pub slots : Numbered w.slots f.slot
  pub readings : Numbered w.readings f.reading
  pub fits : (x : Statement) → Member x xs → Fits f x

-- the statements can all be true
abbrev pub Fillable : Setting → List Statement → Type 0
Fillable w xs = (f : Filling) × FitsAll w xs f

-- the tables that a statement names, its slot and its reading, if it names one
abbrev pub tables_of : Statement → List ℕ
tables_of (W b a i v) = b.0 ∷ a.0 ∷ []
tables_of (R a i v) = a.0 ∷ []
tables_of (E a b) = a.0 ∷ b.0 ∷ []
tables_of (D a b) = a.0 ∷ b.0 ∷ []

abbrev pub slot_of : Statement → Option ℕ
slot_of (W b a i v) = Some i.0
slot_of (R a i v) = Some i.0
slot_of (E a b) = None
slot_of (D a b) = None

abbrev pub reading_of : Statement → Option ℕ
reading_of (W b a i v) = Some v.0
reading_of (R a i v) = Some v.0
reading_of (E a b) = None
reading_of (D a b) = None

-- is the name, if there is one, below the count?
abbrev pub below : ℕ → Option ℕ → Bool
below count None = true
below count (Some i) = nat_lt i count

-- are the statement's slot and reading names of the arrangements?
abbrev pub is_named : Setting → Statement → Bool
is_named w x = below w.slots.size (slot_of x) && below w.readings.size (reading_of x)

-- and are its tables below that count?
abbrev pub is_within : ℕ → Setting → Statement → Bool
is_within tables w x = list_all (λ t. nat_lt t tables) (tables_of x) && is_named w x

abbrev pub Named : Setting → List Statement → Type 0
Named w xs = (x : Statement) → Member x xs → is_named w x ≡ true
