-- Where the pieces begin and end that a window touches: what a binary search over the places of pivots finds.
use Rattle.std.proofs.Common.{◌≡◌, ℕ, ℤ, ◌-◌, ◌<◌, ◌≤◌, true, false, leb, ltb, List, length, get_or, Any, inl, inr, refl, ap, ◌∙◌, arith, max, min}
use Rattle.std.proofs.lemmas.Bool.{cases_lt}
use Rattle.std.specs.List.Sorted.{IsPartitionPoint}
use Rattle.std.proofs.lemmas.Bool.Decides.{nat_tests}
use Rattle.std.proofs.lemmas.List.{get_or_default}
use Rattle.sorted_sets.specs.WindowPieces.{IsPieceStart, IsPieceEnd}

module _ (ps : List (ℤ × ℕ)) (count : ℕ) where
  at_place : (k : ℕ) (d : ℤ × ℕ) → k < length ps → Any (λ p. p.1 ≡ (get_or ps k d).1) ps
  at_place k d lt = (k, get_or ps k d, lt, get_or_default ps k (get_or ps k d) d lt, refl)

  pub piece_start_none : (from first : ℕ) → from ≤ first → IsPartitionPoint (λ p. leb p.1 first ≡ true) (λ p. leb p.1 first ≡ false) ps count → count ≡ 0 → IsPieceStart ps from first from
  piece_start_none from first order point none = record {
    low = omega arith;
    high = order;
    stands = inl refl;
    nearest = λ k d lt. let above = point.1 k d (omega arith) lt in inr (grind (arith, nat_tests));
  }

  pub piece_start_at : (from first place : ℕ) (d : ℤ × ℕ) → from ≤ first → IsPartitionPoint (λ p. leb p.1 first ≡ true) (λ p. leb p.1 first ≡ false) ps count → 0 < count → count ≤ length ps
      → place ≡ max from (get_or ps (count - 1) d).1 → ((i j : ℕ) (e : ℤ × ℕ) → i ≤ j → j < length ps → (get_or ps i e).1 ≤ (get_or ps j e).1) → IsPieceStart ps from first place
  piece_start_at from first place d order point some within is rising =
      let last : ℕ = (get_or ps (count - 1) d).1 in
      let under : last ≤ first = let h = point.0 (count - 1) d (omega arith) (omega arith) in grind (arith, nat_tests) in
      record {
        low = omega arith;
        high = omega arith;
        stands = elim (cases_lt from last) [ inl up ↦ inr (moved (omega arith) (at_place (count - 1) d (omega arith))) | inr down ↦ inl (omega arith) ];
        nearest = λ k e lt.
            elim (cases_lt k count) [
              | inl before ↦
                  let here : (get_or ps k d).1 ≤ last = rising k (count - 1) d (omega arith) (omega arith) in
                  let same : (get_or ps k e).1 ≡ (get_or ps k d).1 = ap (λ (p : ℤ × ℕ). p.1) (get_or_default ps k e d lt) in
                  inl (omega arith)
              | inr behind ↦ let above = point.1 k e behind lt in inr (grind (arith, nat_tests))
            ];
      }
    where
      moved : {n m : ℕ} → n ≡ m → Any (λ p. p.1 ≡ n) ps → Any (λ p. p.1 ≡ m) ps
      moved same (k, p, lt, at, on) = (k, p, lt, at, on ∙ same)

  pub piece_end_none : (to last : ℕ) → last ≤ to → IsPartitionPoint (λ p. ltb p.1 last ≡ true) (λ p. ltb p.1 last ≡ false) ps count → count ≡ length ps → IsPieceEnd ps to last to
  piece_end_none to last order point none = record {
    low = order;
    high = omega arith;
    stands = inl refl;
    nearest = λ k d lt. let below = point.0 k d (omega arith) (omega arith) in inl (grind (arith, nat_tests));
  }

  pub piece_end_at : (to last place : ℕ) (d : ℤ × ℕ) → last ≤ to → IsPartitionPoint (λ p. ltb p.1 last ≡ true) (λ p. ltb p.1 last ≡ false) ps count → count < length ps
      → place ≡ min to (get_or ps count d).1 → ((i j : ℕ) (e : ℤ × ℕ) → i ≤ j → j < length ps → (get_or ps i e).1 ≤ (get_or ps j e).1) → IsPieceEnd ps to last place
  piece_end_at to last place d order point within is rising =
      let next : ℕ = (get_or ps count d).1 in
      let over : last ≤ next = let h = point.1 count d (omega arith) within in grind (arith, nat_tests) in
      record {
        low = omega arith;
        high = omega arith;
        stands = elim (cases_lt next to) [ inl down ↦ inr (moved (omega arith) (at_place count d within)) | inr up ↦ inl (omega arith) ];
        nearest = λ k e lt.
            elim (cases_lt k count) [
              | inl before ↦ let below = point.0 k e (omega arith) before in inl (grind (arith, nat_tests))
              | inr behind ↦
                  let here : next ≤ (get_or ps k d).1 = rising count k d behind lt in
                  let same : (get_or ps k e).1 ≡ (get_or ps k d).1 = ap (λ (p : ℤ × ℕ). p.1) (get_or_default ps k e d lt) in
                  inr (omega arith)
            ];
      }
    where
      moved : {n m : ℕ} → n ≡ m → Any (λ p. p.1 ≡ n) ps → Any (λ p. p.1 ≡ m) ps
      moved same (k, p, lt, at, on) = (k, p, lt, at, on ∙ same)
