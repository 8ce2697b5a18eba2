use Rattle.std.proofs.Common.{◌≡◌, ◌+◌, drop, length}
use Rattle.std.specs.Vec.Iter.{into_iter_items, into_iter_len}
use Rattle.table_lifetime.proofs.OpeningLemmas.{NewSoFar}
use Rattle.table_lifetime.proofs.opening.making_cells.new_cells.Given as goal

abbrev pub invariant-loop-set : goal.invariant-loop-set
invariant-loop-set g l = record {
  left : into_iter_items l.set-iterator ≡ drop (length l.cells.items) l.fn.sets.items;
  size : into_iter_len l.set-iterator + length l.cells.items ≡ length l.fn.sets.items;
  made : NewSoFar l.max_runs l.passes l.fn.sets.items l.cells.items;
  parts : l.log.parts + length l.cells.items ≡ l.fn.log.parts;
  appended : l.log.appended ≡ l.fn.log.appended;
}
