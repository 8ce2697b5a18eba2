-- What the moves of a gap keep, one after the other.
use Rattle.std.proofs.Common.{◌≡◌, ℕ, zero, suc, ℤ, pos, ◌-◌, List, get_or, cond, eqb, refl, sym, ap, ◌∙◌, arith}
use Rattle.std.proofs.lemmas.Bool.Decides.{nat_tests}
use Rattle.std.proofs.lemmas.List.Sorted.{IsPermutation-refl, IsPermutation-trans}
use Rattle.crack_kernel.specs.PivotList.{piece_start}
use Rattle.column_rows.specs.declared.gapped_rows.GappedRows.{GappedRows}
use Rattle.column_rows.specs.GapEffects.{IsCarried, IsFilled, IsWidened}
use Rattle.column_rows.proofs.Frames.{KeepsFrame-more, KeepsFrame-start}

pub IsCarried-start : {A : Type 0} {a : GappedRows A} → IsCarried a a
IsCarried-start = record { width = refl; rows = IsPermutation-refl _; frame = KeepsFrame-start }

pub IsCarried-more : {A : Type 0} {a b c : GappedRows A} → IsCarried a b → IsCarried b c → IsCarried a c
IsCarried-more x y = record {
  width = y.width ∙ x.width;
  rows = IsPermutation-trans _ _ _ x.rows y.rows;
  frame = KeepsFrame-more x.frame y.frame;
}

pub IsWidened-more : {A : Type 0} {a b c : GappedRows A} → IsWidened a b → IsWidened b c → IsWidened a c
IsWidened-more x y = record {
  piece = y.piece ∙ x.piece;
  low = y.low ∙ x.low;
  high = omega (arith, x.high, y.high);
  pivots = y.pivots ∙ x.pivots;
  len = y.len ∙ x.len;
  capacity = y.capacity ∙ x.capacity;
}

pub IsFilled-more : {A : Type 0} {a b c : GappedRows A} → IsFilled a b → IsFilled b c → IsFilled a c
IsFilled-more x y = record {
  piece = y.piece ∙ x.piece;
  low = omega (arith, x.low, y.low);
  high = y.high ∙ x.high;
  pivots = y.pivots ∙ x.pivots;
  len = y.len ∙ x.len;
  capacity = y.capacity ∙ x.capacity;
}

-- where a piece begins, told by its index
pub start_is : (ps : List (ℤ × ℕ)) (i : ℕ) → piece_start ps i ≡ cond (eqb i 0) 0 (get_or ps (i - 1) (pos 0, 0)).1
start_is ps zero = refl
start_is ps (suc n) =
    let e : n ≡ suc n - 1 = omega arith in
    let s : cond (eqb (suc n) 0) 0 (get_or ps (suc n - 1) (pos 0, 0)).1 ≡ (get_or ps (suc n - 1) (pos 0, 0)).1 = grind (arith, nat_tests) in
    ap (λ (k : ℕ). (get_or ps k (pos 0, 0)).1) e ∙ sym s
