use Rattle.std.proofs.Common.{◌≤◌, ◌-◌}
use Rattle.column_rows.proofs.fingerprint_search.skip_unlike.Given as goal

abbrev pub invariant-loop-at : goal.invariant-loop-at
invariant-loop-at l = record {
  low : l.from ≤ l.at;
  high : l.at ≤ l.to;
}

abbrev pub decreases-loop-at : goal.decreases-loop-at
decreases-loop-at l = l.to - l.at
