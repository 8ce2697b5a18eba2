use Rattle.std.proofs.Common.{◌≤◌, ◌+◌, take}
use Rattle.crack_kernel.specs.PartedRows.{IsBelow, IsFrom, Lists}
use Rattle.crack_kernel.proofs.crack_from_both_ends.find_from.Given as goal

abbrev pub invariant-loop-i : goal.invariant-loop-i
invariant-loop-i g l = record {
  few : l.fn.from + l.count ≤ l.i;
  found : Lists (IsFrom l.v) (IsBelow l.v) l.rows (take l.count l.found) l.from l.i;
}
