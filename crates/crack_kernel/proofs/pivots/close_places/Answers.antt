use Rattle.std.proofs.Common.{ℕ, ℤ, pos, get_or, arith}
use Rattle.std.proofs.lemmas.List.{get_or_default}
use Rattle.std.proofs.lemmas.List.Edits.{map_over_more}
use Rattle.crack_kernel.specs.PivotList.{closed_up}
use Rattle.crack_kernel.proofs.pivots.close_places.Goals as goal

pub loop-pivot-preserved : goal.loop-pivot-preserved
loop-pivot-preserved c =
    let ys = c.loop-pivot.pivots in
    let i = c.loop-pivot.pivot-index in
    rw c.closed_up-pivot.ensures (map_over_more (λ (p : ℤ × ℕ). (p.0, closed_up c.args.from c.args.to p.1)) c.args.pivots.now ys i (get_or ys i (pos 0, 0)) c.loop-pivot-test.true c.loop-pivot.invariant
    (get_or_default ys i (pos 0, 0) (get_or ys i (pos 0, 0)) (omega arith)))
