use Rattle.std.proofs.Common.{◌≡◌, ◌-◌, ◌≤◌, ℕ, replicate, count_by, refl, subst, ap, ◌∙◌, arith}
use Rattle.column_rows.specs.MergeGap.{HasGap, blank}
use Rattle.column_rows.proofs.Carried.{IsCarried-more}
use Rattle.column_rows.proofs.Counts.{count_moved}
use Rattle.column_rows.proofs.GapRemoval.{HasGap-cut_first, count_widened, values-closed_up}
use Rattle.crack_kernel.specs.PivotList.{piece_start}
use Rattle.column_rows.proofs.gapped_rows.GappedRows.sink_out.Goals as goal

pub lower-requires-clause-some : goal.lower-requires-clause-some
lower-requires-clause-some g c = omega (arith, c.loop-piece.invariant.at)

pub lower-requires-clause-start : goal.lower-requires-clause-start
lower-requires-clause-start g c = c.loop-piece.invariant.start

pub loop-piece-preserved : goal.loop-piece-preserved
loop-piece-preserved g c =
    let v = c.loop-piece.invariant in
    let n = c.lower.ensures in
    let s = c.sink-in-loop-piece.ensures in
    record {
      start = s.start;
      at = omega (arith, s.piece, n.piece, v.at);
      carried = IsCarried-more v.carried (IsCarried-more n.carried s.carried);
    }

pub returns-clause-parted : goal.returns-clause-parted
returns-clause-parted g c =
    let v = c.loop-piece.invariant in
    let sunk = c.loop-piece.sunk in
    let ps = sunk.pivots.list in
    let xs = sunk.rows.items in
    let high : ℕ = sunk.high in
    let bottom : sunk.piece ≡ 0 = omega (arith, v.at) in
    let low : sunk.low ≡ 0 = v.start ∙ ap (λ (i : ℕ). piece_start ps i) bottom in
    let gap : HasGap ps xs 0 0 high = subst (λ (m : ℕ). HasGap ps xs m 0 high) bottom (subst (λ (m : ℕ). HasGap ps xs sunk.piece m high) low sunk.has_gap) in
    rw (c.close_up.ensures.list, c.remove_between.ensures) (HasGap-cut_first ps xs high gap)

pub returns-clause-content : goal.returns-clause-content
returns-clause-content g c p =
    let v = c.loop-piece.invariant in
    let sunk = c.loop-piece.sunk in
    let xs = sunk.rows.items in
    let high : ℕ = sunk.high in
    let bottom : sunk.piece ≡ 0 = omega (arith, v.at) in
    let low : sunk.low ≡ 0 = v.start ∙ ap (λ (i : ℕ). piece_start sunk.pivots.list i) bottom in
    let order : sunk.low ≤ high = sunk.has_gap.order in
    let moved = count_moved p c.args.self.rows.items xs v.carried.rows in
    let cut = count_widened p xs xs 0 high (omega arith) sunk.has_gap.within refl (λ k d f. refl) (λ k d l u. sunk.has_gap.blanks k d (omega arith) u) in
    let wide : high - 0 ≡ c.args.self.high - c.args.self.low = omega (arith, v.carried.width, low) in
    let blanks = ap (λ (m : ℕ). count_by p (replicate m blank)) wide in
    rw c.remove_between.ensures (omega (arith, moved, cut, blanks))

pub returns-clause-values : goal.returns-clause-values
returns-clause-values g c =
    rw c.close_up.ensures.list (values-closed_up 0 c.loop-piece.sunk.high c.loop-piece.sunk.pivots.list) ∙ c.loop-piece.invariant.carried.frame.values
