use Rattle.std.proofs.Common.{◌≡◌, ◌++◌, drop}
use Rattle.sorted_sets.specs.BorrowedListingPairs.{entry_pairs, pairs_of}
use Rattle.sorted_sets.proofs.query.listing.pairs_in.Given as goal

abbrev pub invariant-loop-place : goal.invariant-loop-place
invariant-loop-place g l = pairs_of l.pairs.items ++ entry_pairs (drop l.place l.members.entries) ≡ entry_pairs l.members.entries
