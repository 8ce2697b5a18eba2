use Rattle.std.proofs.Common.{◌≡◌, take}
use Rattle.sorted_sets.specs.BorrowedListingPairs.{pairs_of}
use Rattle.sorted_sets.proofs.query.window.shown_rows.Given as goal

abbrev pub invariant-loop-row : goal.invariant-loop-row
invariant-loop-row g l = pairs_of l.shown.items ≡ take l.row-index l.rows
