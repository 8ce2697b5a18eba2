use Rattle.std.proofs.Common.{◌≡◌, ◌≤◌, ℕ, ℤ, List, length, sym, subst, arith}
use Rattle.std.proofs.lemmas.Int.{ints}
use Rattle.crack_kernel.specs.PivotList.{IsRising}
use Rattle.crack_kernel.proofs.PivotOrder.{RisesPast-same}
use Rattle.column_rows.proofs.Gaps.{RisesPast-between}
use Rattle.column_rows.proofs.merge_at_gap.is_in_piece.Goals as goal

pub returns-then-from_start : goal.returns-then-from_start
returns-then-from_start g c below =
    let list = c.list-list.result.now in
    let same : c.list-list.result.now ≡ c.args.pivots.now.list = c.list-list.ensures.value in
    let rising : IsRising list = subst IsRising (sym same) c.list-list.ensures.rising in
    let upto : c.args.i ≤ length list = subst (λ (l : List (ℤ × ℕ)). c.args.i ≤ length l) (sym same) c.requires in
    let between = RisesPast-between list _ c.args.i rising upto (c.is_from_start-from_start.ensures c.if-from_start.true) (c.is_below_end-below_end.ensures below) in
    rw (← same) (RisesPast-same _ _ list _ (omega (arith, ints)) between)
