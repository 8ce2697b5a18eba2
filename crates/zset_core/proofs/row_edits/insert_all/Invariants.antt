use Rattle.std.proofs.Common.{◌≡◌, ◌≤◌, ◌+◌, length, count_by}
use Rattle.crack_kernel.specs.RowBag.{Test}
use Rattle.ripple_column.specs.Content.{content_count}
use Rattle.zset_core.proofs.row_edits.insert_all.Given as goal

abbrev pub invariant-loop-row : goal.invariant-loop-row
invariant-loop-row g l = record {
  content : (p : Test) → content_count p l.column + count_by p l.rows.items ≡ content_count p l.initial.column + count_by p l.initial.rows.items;
  rows : l.column.rows ≡ l.initial.column.rows;
  pivots : l.column.pivots ≡ l.initial.column.pivots;
  room : length l.rows.items ≤ l.column.insert_spare;
  spare : l.initial.column.delete_spare ≤ l.column.delete_spare;
}

abbrev pub decreases-loop-row : goal.decreases-loop-row
decreases-loop-row g l = length l.rows.items
