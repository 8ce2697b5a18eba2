-- Rows that are taken out of the piece above a gap, one after the other.
use Rattle.std.proofs.Common.{◌≡◌, ℕ, ℤ, ◌+◌, ◌-◌, ◌≤◌, List, length, replicate, count_by, refl, sym, ap, le_of_eq, arith, vec_capacity}
use Rattle.std.specs.declared.vec.Vec.{Vec}
use Rattle.crack_kernel.specs.RowBag.{Test}
use Rattle.column_rows.specs.declared.gapped_rows.GappedRows.{GappedRows}
use Rattle.column_rows.specs.GapEffects.{IsWidened}
use Rattle.column_rows.specs.MergeGap.{StandFrom, TakenFrom, blank}
use Rattle.column_rows.proofs.Blanks.{blanks_split}

-- the gap stays as it was
pub IsWidened-seen : {A : Type 0} {a b : GappedRows A} → b.rows ≡ a.rows → b.pivots ≡ a.pivots → b.piece ≡ a.piece → b.low ≡ a.low → b.high ≡ a.high → IsWidened a b
IsWidened-seen {A} {a} {b} rows pivots piece low high = record {
  piece = piece;
  low = low;
  high = le_of_eq (sym high);
  pivots = pivots;
  len = ap (λ (v : Vec (ℤ × List ℕ) A). length v.items) rows;
  capacity = ap vec_capacity rows;
}

pub TakenFrom-none : (n : ℕ) (xs : List (ℤ × List ℕ)) → n ≤ length xs → TakenFrom n xs xs
TakenFrom-none n xs within = record { within = within; before = refl; less = λ p. omega arith }

-- what stands from a place on stands from a lower one on
pub StandFrom-lower : (ps : List (ℤ × ℕ)) (i m n : ℕ) → m ≤ n → StandFrom ps i n → StandFrom ps i m
StandFrom-lower ps i m n le stand k e from inside = omega (arith, le, stand k e from inside)

-- no row is taken out
pub taken_none : (p : Test) (rows deletions : List (ℤ × List ℕ)) (high : ℕ) → count_by p rows + count_by p deletions ≡ count_by p rows + count_by p deletions + count_by p (replicate (high - high) blank)
taken_none p rows deletions high = let none : high - high ≡ 0 = omega arith in rw none (omega arith)

-- and more rows after others
pub taken_more : (p : Test) (rows rows' rows'' deletions deletions' deletions'' : List (ℤ × List ℕ)) (high high' high'' : ℕ) → high ≤ high' → high' ≤ high''
    → count_by p rows' + count_by p deletions ≡ count_by p rows + count_by p deletions' + count_by p (replicate (high' - high) blank)
    → count_by p rows'' + count_by p deletions' ≡ count_by p rows' + count_by p deletions'' + count_by p (replicate (high'' - high') blank)
    → count_by p rows'' + count_by p deletions ≡ count_by p rows + count_by p deletions'' + count_by p (replicate (high'' - high) blank)
taken_more p rows rows' rows'' deletions deletions' deletions'' high high' high'' up up' first second =
    omega (arith, first, second, blanks_split p (high' - high) (high'' - high') (high'' - high) (omega arith))
