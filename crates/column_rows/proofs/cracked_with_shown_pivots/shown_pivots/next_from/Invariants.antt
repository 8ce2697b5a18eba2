use Rattle.std.proofs.Common.{length, ◌-◌}
use Rattle.column_rows.proofs.cracked_with_shown_pivots.shown_pivots.next_from.Given as goal

abbrev pub decreases-loop-i : goal.decreases-loop-i
decreases-loop-i l = length l.list - l.i
