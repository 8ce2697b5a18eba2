use Rattle.std.proofs.Common.{◌≤◌, ◌+◌, take}
use Rattle.crack_kernel.specs.PartedRows.{IsBelow, IsFrom, Lists}
use Rattle.crack_kernel.proofs.crack.find_below.Given as goal

abbrev pub invariant-loop-i : goal.invariant-loop-i
invariant-loop-i g l = record {
  few : l.fn.from + l.count ≤ l.i;
  found : Lists (IsBelow l.v) (IsFrom l.v) l.rows (take l.count l.found) l.from l.i;
}
