use Rattle.std.proofs.Common.{◌≡◌, ◌+◌, length, take, vec_capacity}
use Rattle.crack_kernel.proofs.pivots.Pivots.copy_from.Given as goal

abbrev pub invariant-loop-pivot : goal.invariant-loop-pivot
invariant-loop-pivot g l = record {
  items : l.self-inside.list.items ≡ take l.pivot-index l.other.list;
  capacity : vec_capacity l.self-inside.list ≡ l.fn.self.spare + length l.fn.self.list;
}
