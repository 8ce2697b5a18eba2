use Rattle.std.proofs.Common.{◌-◌, ◌≤◌, length}
use Rattle.column_rows.proofs.merge_pass.piece_tail.Given as goal

abbrev pub invariant-loop-start : goal.invariant-loop-start
invariant-loop-start g l = (l.from ≤ l.start) × (l.start ≤ length l.list)

abbrev pub decreases-loop-start : goal.decreases-loop-start
decreases-loop-start g l = l.start - l.from
