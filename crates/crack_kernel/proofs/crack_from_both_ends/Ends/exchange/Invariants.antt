use Rattle.std.proofs.Common.{◌+◌, length, take, drop, IsPermutation}
use Rattle.std.specs.List.{AllWithin}
use Rattle.crack_kernel.specs.PartedRows.{IsBelow, IsFrom, Lists, ListsDown}
use Rattle.crack_kernel.proofs.crack_from_both_ends.Ends.exchange.Given as goal

abbrev pub invariant-loop-i : goal.invariant-loop-i
invariant-loop-i g l = record {
  moves : IsPermutation l.fn.rows l.rows;
  below : AllWithin (IsBelow l.self.value) l.rows 0 l.self.lower.from;
  lower : Lists (IsFrom l.self.value) (IsBelow l.self.value) l.rows (drop (l.lower + l.i) (take l.self.lower.count l.self.lower.places)) l.self.lower.from l.self.lower.to;
  upper : ListsDown (IsBelow l.self.value) (IsFrom l.self.value) l.rows (drop (l.upper + l.i) (take l.self.upper.count l.self.upper.places)) l.self.upper.from l.self.upper.to;
  behind : AllWithin (IsFrom l.self.value) l.rows l.self.upper.to (length l.rows);
}
