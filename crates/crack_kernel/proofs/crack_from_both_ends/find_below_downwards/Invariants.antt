use Rattle.std.proofs.Common.{◌≤◌, ◌-◌, take}
use Rattle.crack_kernel.specs.PartedRows.{IsBelow, IsFrom, ListsDown}
use Rattle.crack_kernel.proofs.crack_from_both_ends.find_below_downwards.Given as goal

abbrev pub invariant-loop-passed : goal.invariant-loop-passed
invariant-loop-passed g l = record {
  few : l.count ≤ l.passed;
  found : ListsDown (IsBelow l.v) (IsFrom l.v) l.rows (take l.count l.found) (l.to - l.passed) l.to;
}
