use Rattle.std.proofs.Common.{rules}
use Rattle.sorted_sets.proofs.Ranks.{IsPart-low, IsPart-all}
use Rattle.sorted_sets.proofs.query.window.low_ranks.Goals as goal

pub returns-then-end-shown : goal.returns-then-end-shown
returns-then-end-shown c = IsPart-all c.args.shown.now 0 c.args.end (search rules) (search rules)

pub returns : goal.returns
returns c =
    let r = c.select_nth_unstable-low.result in
    let ensures = c.select_nth_unstable-low.ensures in
    IsPart-low r.0.now r.1.now r.2.now c.args.shown.now c.args.end ensures.permutation ensures.front_len ensures.partitioned
