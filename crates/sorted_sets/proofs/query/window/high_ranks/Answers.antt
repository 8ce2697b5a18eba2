use Rattle.std.proofs.Common.{length, arith, rules}
use Rattle.sorted_sets.proofs.Ranks.{IsPart-all, IsPart-high}
use Rattle.sorted_sets.proofs.query.window.high_ranks.Goals as goal

pub returns-then-start-eq0 : goal.returns-then-start-eq0
returns-then-start-eq0 c = IsPart-all c.args.shown.now c.args.start (length c.args.shown.now) (search rules) (search rules)

pub returns : goal.returns
returns c =
    let r = c.select_nth_unstable-high.result in
    let ensures = c.select_nth_unstable-high.ensures in
    IsPart-high r.0.now r.1.now r.2.now c.args.shown.now c.args.start ensures.permutation (omega arith) ensures.partitioned
