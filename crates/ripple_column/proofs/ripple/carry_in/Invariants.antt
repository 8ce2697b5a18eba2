use Rattle.std.proofs.Common.{◌≡◌, ◌≤◌, ◌++◌, ◌∷◌, [], length, vec_capacity}
use Rattle.column_rows.proofs.Hole.{Inserting}
use Rattle.ripple_column.proofs.ripple.carry_in.Given as goal

abbrev pub invariant-loop-i : goal.invariant-loop-i
invariant-loop-i g l = record {
  from : l.first ≤ l.i;
  inserting : Inserting l.list (length l.fn.rows.items) l.i l.hole l.fn.row (l.fn.rows.items ++ l.fn.row ∷ []) l.rows.items;
  capacity : vec_capacity l.rows ≡ vec_capacity l.fn.rows;
}

abbrev pub decreases-loop-i : goal.decreases-loop-i
decreases-loop-i g l = l.i
