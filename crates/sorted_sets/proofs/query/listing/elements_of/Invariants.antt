use Rattle.std.proofs.Common.{◌≡◌, ◌++◌, drop}
use Rattle.zset_core.specs.Semantics.{elements}
use Rattle.sorted_sets.specs.BorrowedListingPairs.{pairs_of}
use Rattle.sorted_sets.proofs.query.listing.elements_of.Given as goal

abbrev pub invariant-loop-score : goal.invariant-loop-score
invariant-loop-score g l = l.list.items ++ elements l.with_scores (pairs_of (drop l.score-index l.pairs)) ≡ elements l.with_scores (pairs_of l.pairs)
