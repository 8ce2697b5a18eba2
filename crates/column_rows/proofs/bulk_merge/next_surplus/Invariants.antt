use Rattle.std.proofs.Common.{◌-◌, ◌≤◌, length}
use Rattle.column_rows.proofs.bulk_merge.next_surplus.Given as goal

abbrev pub invariant-loop-leaving : goal.invariant-loop-leaving
invariant-loop-leaving g l = record {
  leaving_low : l.up.deletions ≤ l.leaving;
  leaving_high : l.leaving ≤ length l.deletions;
  arriving_low : l.up.insertions ≤ l.arriving;
  arriving_high : l.arriving ≤ length l.insertions;
}

abbrev pub decreases-loop-leaving : goal.decreases-loop-leaving
decreases-loop-leaving g l = l.leaving - l.up.deletions
