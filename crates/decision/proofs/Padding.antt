-- Positions in front, and zeros after them.
use Rattle.std.proofs.Common.{◌≡◌, ℕ, ◌+◌, List, [], ◌∷◌, ◌++◌, length, drop, replicate, sym, ap, ap₂, ◌∙◌}
use Rattle.std.specs.List.{range_with_len}
use Rattle.std.proofs.lemmas.List.{drop-replicate, map-id}
use Rattle.std.proofs.lemmas.List.FromFn.{map-range_with_len_more}
use Rattle.decision.specs.Citations.{citation}

-- positions written over the front of zeros
pub written : (ps front : List ℕ) → front ≡ ps → record { count = length ps; positions = front ++ drop (length ps) (replicate 512 0) } ≡ citation ps
written ps front e =
    ap₂ (λ (xs zeros : List ℕ). record { count = length ps; positions = xs ++ zeros }) e (drop-replicate (length ps) 512 0)

pub counting_more : (a n j : ℕ) → a + n ≡ j → range_with_len a (n + 1) ≡ range_with_len a n ++ j ∷ []
counting_more a n j e =
    sym (map-id (range_with_len a (n + 1)))
    ∙ map-range_with_len_more (λ k. k) a n j e
    ∙ ap (λ (ks : List ℕ). ks ++ j ∷ []) (map-id (range_with_len a n))
