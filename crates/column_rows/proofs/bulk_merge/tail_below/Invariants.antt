use Rattle.std.proofs.Common.{◌-◌, ◌≤◌}
use Rattle.column_rows.proofs.bulk_merge.tail_below.Given as goal

abbrev pub invariant-loop-i : goal.invariant-loop-i
invariant-loop-i g l = (l.from ≤ l.i) × (l.i ≤ l.to)

abbrev pub decreases-loop-i : goal.decreases-loop-i
decreases-loop-i g l = l.i - l.from
