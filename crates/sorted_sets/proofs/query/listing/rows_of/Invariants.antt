use Rattle.std.proofs.Common.{◌≡◌, ◌++◌, drop}
use Rattle.sorted_sets.specs.BorrowedListingPairs.{pairs_of}
use Rattle.sorted_sets.proofs.query.listing.rows_of.Given as goal

abbrev pub invariant-loop-score : goal.invariant-loop-score
invariant-loop-score g l = l.rows.items ++ pairs_of (drop l.score-index l.pairs) ≡ pairs_of l.pairs
