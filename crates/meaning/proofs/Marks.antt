-- Clashes, and tables that are alike: what is computed is what is meant.
use Rattle.std.proofs.Common.{◌≡◌, ℕ, Bool, true, not, ◌&&◌, ◌↔◌, List, inl, inr}
use Rattle.std.specs.List.{list_any}
use Rattle.std.proofs.lemmas.Bool.{and_from, and_parts, not_from_false, not-true, or_cases, or_left, or_right}
use Rattle.links.specs.Chains.{joined}
use Rattle.links.proofs.Reach.{joined_finds}
use Rattle.arrangement.specs.Meaning.{Meaning, same}
use Rattle.meaning.specs.Columns.{Clash, MarkedAlike, TablesAlike, alike, clash}
use Rattle.meaning.proofs.Lists.{two_from, two_has}

module _ (m : Meaning) (links marks : List (ℕ × ℕ)) where
  abbrev chained : ℕ → ℕ → Bool
  chained a b = joined links a b

  abbrev clashing : ℕ × ℕ → ℕ × ℕ → Bool
  clashing p q = chained p.0 q.0 && not (same m p.1 q.1)

  pub clash_has : clash m links marks ≡ true → Clash m links marks
  unfolding clash
  clash_has h =
      let r = two_has clashing marks h in
      let p = r.0 in
      let q = r.1 in
      let both = and_parts (chained p.0 q.0) (not (same m p.1 q.1)) r.4 in
      record {
        p = p;
        q = q;
        marked_p = r.2;
        marked_q = r.3;
        chain = (joined_finds links p.0 q.0).0 both.0;
        unlike = not-true (same m p.1 q.1) both.1;
      }

  pub clash_from : Clash m links marks → clash m links marks ≡ true
  unfolding clash
  clash_from c =
      two_from clashing marks c.p c.q c.marked_p c.marked_q
      (and_from (chained c.p.0 c.q.0) (not (same m c.p.1 c.q.1))
      ((joined_finds links c.p.0 c.q.0).1 c.chain) (not_from_false (same m c.p.1 c.q.1) c.unlike))

  module _ (a b : ℕ) where
    abbrev meeting : ℕ × ℕ → ℕ × ℕ → Bool
    meeting p q = (chained a p.0 && chained b q.0) && same m p.1 q.1

    abbrev meet : Bool
    meet = list_any (λ p. list_any (meeting p) marks) marks

    meet_has : meet ≡ true → MarkedAlike m links marks a b
    meet_has h =
        let r = two_has meeting marks h in
        let p = r.0 in
        let q = r.1 in
        let both = and_parts (chained a p.0 && chained b q.0) (same m p.1 q.1) r.4 in
        let chains = and_parts (chained a p.0) (chained b q.0) both.0 in
        record {
          p = p;
          q = q;
          marked_p = r.2;
          marked_q = r.3;
          chain_a = (joined_finds links a p.0).0 chains.0;
          chain_b = (joined_finds links b q.0).0 chains.1;
          alike = both.1;
        }

    meet_from : MarkedAlike m links marks a b → meet ≡ true
    meet_from c =
        two_from meeting marks c.p c.q c.marked_p c.marked_q
        (and_from (chained a c.p.0 && chained b c.q.0) (same m c.p.1 c.q.1)
        (and_from (chained a c.p.0) (chained b c.q.0)
        ((joined_finds links a c.p.0).1 c.chain_a) ((joined_finds links b c.q.0).1 c.chain_b)) c.alike)

    pub alike_means : (alike m links marks a b ≡ true) ↔ TablesAlike m links marks a b
    unfolding alike
    alike_means = (
      (λ h.
          elim (or_cases (chained a b) meet h) [
            | inl e ↦ inl ((joined_finds links a b).0 e)
            | inr e ↦ inr (meet_has e)
          ]),
      (λ t.
          elim t [
            | inl chain ↦ or_left (chained a b) meet ((joined_finds links a b).1 chain)
            | inr c ↦ or_right (chained a b) meet (meet_from c)
          ]),
    )
