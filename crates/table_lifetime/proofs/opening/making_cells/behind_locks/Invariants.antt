use Rattle.std.proofs.Common.{◌≡◌, ◌+◌, length}
use Rattle.std.specs.Vec.Iter.{into_iter_len}
use Rattle.table_lifetime.proofs.opening.making_cells.behind_locks.Given as goal

abbrev pub invariant-loop-cell : goal.invariant-loop-cell
invariant-loop-cell g l = into_iter_len l.cell-iterator + length l.locks.items ≡ length l.fn.cells.items
