use Rattle.std.proofs.Common.{◌-◌, ◌≤◌, IsPermutation, length}
use Rattle.std.specs.List.{AllWithin}
use Rattle.crack_kernel.specs.PartedRows.{IsBelow, IsFrom}
use Rattle.crack_kernel.proofs.crack.crack_run.Given as goal

abbrev pub invariant-loop-from : goal.invariant-loop-from
invariant-loop-from g l = record {
  order : l.place ≤ l.from;
  within : l.from ≤ length l.rows;
  moves : IsPermutation l.fn.rows l.rows;
  before : AllWithin (IsBelow l.v) l.rows 0 l.place;
  behind : AllWithin (IsFrom l.v) l.rows l.place l.from;
}

abbrev pub decreases-loop-from : goal.decreases-loop-from
decreases-loop-from g l = l.len - l.from
