use Rattle.std.proofs.Common.{◌≡◌, ◌≤◌, ◌+◌, ◌-◌, false, length, count_by}
use Rattle.std.specs.List.{AllWithin}
use Rattle.crack_kernel.specs.RowBag.{Test, IsSubBag}
use Rattle.column_rows.specs.Content.{has_score_in, SameOutside}
use Rattle.column_rows.specs.MergeEffects.{KeepsFrame}
use Rattle.ripple_column.proofs.merge.merge_deletions.Given as goal

abbrev pub invariant-loop-i : goal.invariant-loop-i
invariant-loop-i g l = record {
  fits : l.i ≤ length l.deletions.items;
  part : IsSubBag l.deletions.items l.cracked.rows.items;
  less : IsSubBag l.deletions.items l.fn.deletions.items;
  frame : KeepsFrame l.fn.cracked.rows l.fn.cracked.pivots l.cracked.rows l.cracked.pivots;
  content : (p : Test) → count_by p l.cracked.rows.items + count_by p l.fn.deletions.items ≡ count_by p l.fn.cracked.rows.items + count_by p l.deletions.items;
  passed : AllWithin (λ r. has_score_in l.range r ≡ false) l.deletions.items 0 l.i;
  waiting : SameOutside l.range l.fn.deletions.items l.deletions.items;
}

abbrev pub decreases-loop-i : goal.decreases-loop-i
decreases-loop-i g l = length l.deletions.items - l.i
