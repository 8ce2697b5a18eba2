use Rattle.std.proofs.Common.{take}
use Rattle.std.specs.BinaryHeap.{IsHeap, heap_items}
use Rattle.sorted_sets.specs.BorrowedListingPairs.{pairs_of, shown_cmp}
use Rattle.sorted_sets.specs.WindowPieces.{HasLeast}
use Rattle.sorted_sets.proofs.query.least_pairs.least_pairs.Given as goal

abbrev pub invariant-loop-row : goal.invariant-loop-row
invariant-loop-row g l = record {
  heap : IsHeap shown_cmp (heap_items l.least);
  least : HasLeast (take l.row-index l.rows) l.count (pairs_of (heap_items l.least));
}
