use Rattle.std.proofs.Common.{length, arith}
use Rattle.std.proofs.lemmas.List.{length-map}
use Rattle.std.proofs.lemmas.List.Sorted.{IsPermutation-map}
use Rattle.sorted_sets.specs.BorrowedListingPairs.{pair_of, pairs_of}
use Rattle.sorted_sets.proofs.Ranks.{IsPart-inner, IsPart-moved}
use Rattle.sorted_sets.proofs.query.window.window_of.Goals as goal

pub returns-clause-part : goal.returns-clause-part
returns-clause-part c =
    let all = c.args.shown.now in
    let low = c.low_ranks.result.now in
    let high = c.high_ranks-window.result.now in
    let len = length-map low pair_of in
    let outer = c.low_ranks.ensures in
    IsPart-moved (pairs_of all) c.args.start c.args.end (pairs_of high) (pairs_of c.sort_unstable.new.self)
    (IsPart-inner (pairs_of all) 0 c.args.end c.args.start (length low) c.args.start c.args.end (pairs_of low) (pairs_of high) outer c.high_ranks-window.ensures (omega arith)
    (omega (arith, len, outer.first, outer.last)))
    (IsPermutation-map pair_of high c.sort_unstable.new.self c.sort_unstable.ensures.permutation)
