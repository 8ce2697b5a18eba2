use Rattle.std.proofs.Common.{ℕ, refl, replicate, count_by, ap, arith}
use Rattle.column_rows.specs.MergeGap.{blank}
use Rattle.column_rows.proofs.Carried.{IsCarried-more, IsCarried-start}
use Rattle.column_rows.proofs.Counts.{count_moved}
use Rattle.column_rows.proofs.Frames.{KeepsFrame-more, KeepsFrame-start}
use Rattle.column_rows.proofs.gapped_rows.GappedRows.lift_out.Goals as goal

pub loop-piece-preserved : goal.loop-piece-preserved
loop-piece-preserved g c =
    let v = c.loop-piece.invariant in
    record { piece = omega (arith, c.lift.ensures.piece, v.piece); carried = IsCarried-more v.carried c.lift.ensures.carried }

pub returns-clause-content : goal.returns-clause-content
returns-clause-content g c p =
    let v = c.loop-piece.invariant in
    let closed = c.close.ensures.content p in
    let moved = count_moved p c.args.self.rows.items c.loop-piece.lifted.rows.items v.carried.rows in
    let gap = ap (λ (m : ℕ). count_by p (replicate m blank)) v.carried.width in
    omega (arith, closed, moved, gap)

pub loop-piece-init : goal.loop-piece-init
loop-piece-init g c = record { piece = refl; carried = IsCarried-start }

pub returns-clause-parted : goal.returns-clause-parted
returns-clause-parted g c = c.close.ensures.parted

pub returns-clause-frame : goal.returns-clause-frame
returns-clause-frame g c = KeepsFrame-more c.loop-piece.invariant.carried.frame c.close.ensures.frame

pub returns-then-self-clause-frame : goal.returns-then-self-clause-frame
returns-then-self-clause-frame g c = KeepsFrame-start
