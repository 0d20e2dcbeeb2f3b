-- Links between names, and the chains that they make. A link is a pair of names and runs both ways.
use Rattle.std.specs.Prelude.{◌≡◌, ℕ, zero, suc, ◌<◌, ◌≤◌, Bool, true, false, cond, not, ◌&&◌, ◌||◌, ◌⊎◌, ◌↔◌, List, [], ◌∷◌, length, Some, None, Option, ◌==◌, nat_eq}
use Rattle.std.specs.List.{list_any}
use Rattle.links.specs.Lists.{Member, least}

-- one link leads from b to c
abbrev pub Linked : List (ℕ × ℕ) → ℕ → ℕ → Type 0
Linked links b c = Member (b, c) links ⊎ Member (c, b) links

-- a chain of so many links from a
pub data Chain (links : List (ℕ × ℕ)) (a : ℕ) : ℕ → ℕ → Type 0 where
  none : Chain links a a 0
  next : {b c n : ℕ} → Chain links a b n → Linked links b c → Chain links a c (suc n)

-- a chain joins a and b
abbrev pub Joins : List (ℕ × ℕ) → ℕ → ℕ → Type 0
Joins links a b = (n : ℕ) × Chain links a b n

-- is x in the list?
abbrev pub has : ℕ → List ℕ → Bool
has x [] = false
has x (y ∷ ys) = x == y || has x ys

-- x put in front where it is wanted and not there yet
abbrev pub add_if : Bool → ℕ → List ℕ → List ℕ
add_if wanted x ys = cond (wanted && not (has x ys)) (x ∷ ys) ys

-- the names of `old`, and those one link away from one of them
abbrev pub spread : List (ℕ × ℕ) → List ℕ → List ℕ
spread [] old = old
spread (l ∷ ls) old = add_if (has l.0 old) l.1 (add_if (has l.1 old) l.0 (spread ls old))

-- the names that at most d links reach from a, each once
abbrev pub reached : List (ℕ × ℕ) → ℕ → ℕ → List ℕ
reached links zero a = a ∷ []
reached links (suc d) a = spread links (reached links d a)

-- do at most d links lead from a to b?
unfoldable pub within : List (ℕ × ℕ) → ℕ → ℕ → ℕ → Bool
within links d a b = has b (reached links d a)

-- does a chain join a and b? No shortest chain has more links than there are.
unfoldable pub joined : List (ℕ × ℕ) → ℕ → ℕ → Bool
joined links a b = within links (length links) a b

-- the lowest name that a chain joins t to
unfoldable pub lowest_joined : List (ℕ × ℕ) → ℕ → ℕ
lowest_joined links t = least (λ u. joined links u t) t

-- the first d, of the next `left` ones too, at which a goal is among the names reached
abbrev pub seek : List (ℕ × ℕ) → (ℕ → Bool) → ℕ → ℕ → List ℕ → Option ℕ
seek links goal zero d names = cond (list_any goal names) (Some d) None
seek links goal (suc left) d names = let later = seek links goal left (suc d) (spread links names) in cond (list_any goal names) (Some d) later

-- the fewest links that lead from a to a goal
unfoldable pub fewest : List (ℕ × ℕ) → (ℕ → Bool) → ℕ → Option ℕ
fewest links goal a = seek links goal (length links) 0 (a ∷ [])

-- r is how many links a shortest chain from a to a goal has, or no chain leads to one
abbrev pub Nearest : List (ℕ × ℕ) → (ℕ → Bool) → ℕ → Option ℕ → Type 0
Nearest links goal a None = (b n : ℕ) → Chain links a b n → goal b ≡ false
Nearest links goal a (Some m) = ((b : ℕ) × (goal b ≡ true) × Chain links a b m) × ((b n : ℕ) → Chain links a b n → goal b ≡ true → m ≤ n)

-- What the definitions that compute mean, in terms of chains.
pub record ChainsFound : Type 0 where
  pub near : (links : List (ℕ × ℕ)) (d a b : ℕ) → (within links d a b ≡ true) ↔ ((n : ℕ) × (n ≤ d) × Chain links a b n)
  pub any : (links : List (ℕ × ℕ)) (a b : ℕ) → (joined links a b ≡ true) ↔ Joins links a b
  pub reflexive : (links : List (ℕ × ℕ)) (a : ℕ) → joined links a a ≡ true
  pub symmetric : (links : List (ℕ × ℕ)) (a b : ℕ) → joined links a b ≡ true → joined links b a ≡ true
  pub transitive : (links : List (ℕ × ℕ)) (a b c : ℕ) → joined links a b ≡ true → joined links b c ≡ true → joined links a c ≡ true
  pub lowest : (links : List (ℕ × ℕ)) (a b : ℕ) → (lowest_joined links a ≡ lowest_joined links b) ↔ Joins links a b
  pub nearest : (links : List (ℕ × ℕ)) (goal : ℕ → Bool) (a : ℕ) → Nearest links goal a (fewest links goal a)
  pub short : (links : List (ℕ × ℕ)) (count a b m : ℕ) → a < count → ((x y : ℕ) → Linked links x y → y < count) → fewest links (λ y. nat_eq y b) a ≡ Some m → m < count
