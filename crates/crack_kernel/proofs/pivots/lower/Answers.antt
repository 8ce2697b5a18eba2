use Rattle.std.proofs.Common.{pos, get_or, false, arith}
use Rattle.std.proofs.lemmas.List.{get_or_default}
use Rattle.std.proofs.lemmas.List.Edits.{map_over_more}
use Rattle.crack_kernel.specs.PivotList.{shifted_pivot}
use Rattle.crack_kernel.proofs.pivots.lower.Goals as goal

pub loop-pivot-preserved : goal.loop-pivot-preserved
loop-pivot-preserved c =
    let ys = c.loop-pivot.pivots in
    let i = c.loop-pivot.pivot-index in
    map_over_more (shifted_pivot false) c.args.pivots.now ys i (get_or ys i (pos 0, 0)) c.loop-pivot-test.true c.loop-pivot.invariant
    (get_or_default ys i (pos 0, 0) (get_or ys i (pos 0, 0)) (omega arith))
