use Rattle.std.proofs.Common.{◌≡◌, ◌≤◌, ◌+◌, ◌-◌, false, length, count_by, vec_capacity}
use Rattle.std.specs.List.{AllWithin}
use Rattle.crack_kernel.specs.RowBag.{Test, IsSubBag}
use Rattle.column_rows.specs.Content.{has_score_in, SameOutside}
use Rattle.column_rows.specs.MergeEffects.{KeepsFrame}
use Rattle.ripple_column.proofs.merge.merge_insertions.Given as goal

abbrev pub invariant-loop-i : goal.invariant-loop-i
invariant-loop-i g l = record {
  fits : l.i ≤ length l.insertions.items;
  less : IsSubBag l.insertions.items l.fn.insertions.items;
  frame : KeepsFrame l.fn.cracked.rows l.fn.cracked.pivots l.cracked.rows l.cracked.pivots;
  room : length l.cracked.rows.items + count_by (has_score_in l.range) l.insertions.items ≤ vec_capacity l.fn.cracked.rows;
  content : (p : Test) → count_by p l.cracked.rows.items + count_by p l.insertions.items ≡ count_by p l.fn.cracked.rows.items + count_by p l.fn.insertions.items;
  passed : AllWithin (λ r. has_score_in l.range r ≡ false) l.insertions.items 0 l.i;
  waiting : SameOutside l.range l.fn.insertions.items l.insertions.items;
}

abbrev pub decreases-loop-i : goal.decreases-loop-i
decreases-loop-i g l = length l.insertions.items - l.i
