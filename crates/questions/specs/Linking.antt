-- The links of a column, gathered.
use Rattle.std.specs.Prelude.{◌≡◌, ℕ, zero, suc, Bool, true, ◌&&◌, List, [], ◌∷◌, map, Some, None, Option, nat_lt, slice_get, slice_index_or, refl}
use Rattle.std.proofs.lemmas.Bool.{and_from, and_parts, cond_both, ltb-true}
use Rattle.std.specs.List.{AllByRecursion, list_all}
use Rattle.std.specs.Option.{option_flatten}
use Rattle.meaning.specs.declared.column.Column.{Column}
use Rattle.meaning.specs.Columns.{here, link_at}
use Rattle.meaning.specs.Fillings.{Setting, is_named, is_within}
use Rattle.search.specs.Entries.{Inside}
use Rattle.standing.specs.declared.standing.Standing.{Standing}
use Rattle.statement.specs.declared.Statement.{Statement}
use Rattle.statement.specs.declared.Statement.TheVariants.{W, R, E, D}
use Rattle.questions.specs.Asked.{links_in, list_in, setting_in}
use Rattle.questions.specs.Links.{is_inside}
use Rattle.questions.specs.Stands.{within}

-- Links below a count, as a search has it.
module _ (n : ℕ) where
  inside_means : (e : Option (ℕ × ℕ)) → is_inside n e ≡ true → Inside n e
  inside_means None h = tt
  inside_means (Some p) h =
      let both = and_parts (nat_lt p.0 n) (nat_lt p.1 n) h in (ltb-true p.0 n both.0, ltb-true p.1 n both.1)

  pub all_inside : (es : List (Option (ℕ × ℕ))) → list_all (is_inside n) es ≡ true → AllByRecursion (Inside n) es
  all_inside [] h = tt
  all_inside (e ∷ es) h =
      let each = and_parts (is_inside n e) (list_all (is_inside n) es) h in (inside_means e each.0, all_inside es each.1)

-- Statements that name tables below a count link tables below it.
module _ (n : ℕ) (w : Setting) (k : Column) where
  two_inside : (a b : ℕ) (named : Bool) → ((nat_lt a n && (nat_lt b n && true)) && named) ≡ true → is_inside n (Some (a, b)) ≡ true
  two_inside a b named h =
      let both = and_parts (nat_lt a n) (nat_lt b n && true) (and_parts (nat_lt a n && (nat_lt b n && true)) named h).0 in
      and_from (nat_lt a n) (nat_lt b n) both.0 (and_parts (nat_lt b n) true both.1).0

  link_inside : (x : Statement) → is_within n w x ≡ true → is_inside n (link_at w k x) ≡ true
  link_inside (W b a i v) h =
      cond_both (here w k i.0) None (Some (b.0, a.0)) (λ e. is_inside n e ≡ true) (λ _. refl)
      (λ _. two_inside b.0 a.0 (is_named w (W b a i v)) h)
  link_inside (R a i v) h = refl
  link_inside (E a b) h = two_inside a.0 b.0 (is_named w (E a b)) h
  link_inside (D a b) h = refl

  map_inside : (xs : List Statement) → list_all (is_within n w) xs ≡ true → list_all (is_inside n) (map (link_at w k) xs) ≡ true
  map_inside [] h = refl
  map_inside (x ∷ xs) h =
      let each = and_parts (is_within n w x) (list_all (is_within n w) xs) h in
      and_from (is_inside n (link_at w k x)) (list_all (is_inside n) (map (link_at w k) xs)) (link_inside x each.0) (map_inside xs each.1)

pub links_inside : (s : Standing) (k : Column) → list_all (is_inside s.tables) (links_in s k) ≡ true
links_inside s k = map_inside s.tables (setting_in s) k (list_in s) (within s)

-- what is looked up of links with gaps
pub link_here : (links : List (Option (ℕ × ℕ))) (i : ℕ) → option_flatten (slice_get links i) ≡ slice_index_or links i None
link_here [] i = refl
link_here (l ∷ links) zero = refl
link_here (l ∷ links) (suc i) = link_here links i
