use Rattle.std.proofs.Common.{◌≡◌, ◌≤◌, ℤ, ℕ, List, length, get_or}
use Rattle.column_rows.specs.MergeEffects.{KeepsFrame}
use Rattle.column_rows.proofs.gapped_rows.GappedRows.widen.Given as goal

abbrev pub invariant-loop-at : goal.invariant-loop-at
invariant-loop-at g l = record {
  from : l.fn.self.high ≤ l._at;
  high : l.self.high ≡ l._at;
  low : l.self.low ≡ l.fn.self.low;
  len : length l.self.rows.items ≡ length l.fn.self.rows.items;
  others : (k : ℕ) (d : ℤ × List ℕ) → (l.fn.self.high ≤ k → l._at ≤ k) → get_or l.self.rows.items k d ≡ get_or l.fn.self.rows.items k d;
  frame : KeepsFrame l.fn.self.rows l.fn.self.pivots l.self.rows l.self.pivots;
}
