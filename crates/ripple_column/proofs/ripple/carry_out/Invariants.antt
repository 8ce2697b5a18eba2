use Rattle.std.proofs.Common.{◌≡◌, ◌-◌, length, vec_capacity}
use Rattle.column_rows.proofs.Hole.{Removing}
use Rattle.ripple_column.proofs.ripple.carry_out.Given as goal

abbrev pub invariant-loop-i : goal.invariant-loop-i
invariant-loop-i g l = record {
  removing : Removing l.list (length l.fn.rows.items) l.first l.i l.hole l.row l.fn.rows.items l.rows.items;
  capacity : vec_capacity l.rows ≡ vec_capacity l.fn.rows;
}

abbrev pub decreases-loop-i : goal.decreases-loop-i
decreases-loop-i g l = length l.list - l.i
