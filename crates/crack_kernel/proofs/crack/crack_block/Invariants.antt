use Rattle.std.proofs.Common.{◌≤◌, take, drop, IsPermutation}
use Rattle.std.specs.List.{AllWithin}
use Rattle.crack_kernel.specs.PartedRows.{IsBelow, IsFrom, Lists}
use Rattle.crack_kernel.proofs.crack.crack_block.Given as goal

abbrev pub invariant-loop-i : goal.invariant-loop-i
invariant-loop-i g l = record {
  order : l.next ≤ l.fn.to;
  moves : IsPermutation l.fn.rows l.rows;
  before : AllWithin (IsBelow l.fn.v) l.rows 0 l.next;
  left : Lists (IsBelow l.fn.v) (IsFrom l.fn.v) l.rows (drop l.i (take l.count l.found)) l.next l.fn.to;
}
