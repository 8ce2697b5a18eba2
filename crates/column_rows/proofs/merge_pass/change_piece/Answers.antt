use Rattle.std.proofs.Common.{◌≡◌, ◌-◌, ◌≤◌, ℕ, pos, length, get_or, replicate, count_by, ap, arith}
use Rattle.column_rows.specs.MergeGap.{blank}
use Rattle.column_rows.proofs.Blanks.{blanks_split}
use Rattle.column_rows.proofs.Counts.{count_moved}
use Rattle.column_rows.proofs.Gaps.{StandFrom-end}
use Rattle.column_rows.proofs.Taken.{TakenFrom-later}
use Rattle.column_rows.proofs.merge_pass.change_piece.Goals as goal

pub take_out-requires-clause-ends : goal.take_out-requires-clause-ends
take_out-requires-clause-ends g c =
    let below = c.sink.new.self in
    let ps = below.pivots.list in
    let xs = below.rows.items in
    let n : c.len.result ≡ length xs = omega arith in
    let end : c.piece_at-end.result.1 ≡ (get_or ps below.piece (pos 0, length xs)).1 = rw (← n) c.piece_at-end.ensures.end in
    rw end (StandFrom-end ps xs below.piece below.low below.high below.has_gap)

pub returns-clause-content : goal.returns-clause-content
returns-clause-content g c p =
    let below = c.sink.new.self in
    let wide = c.take_out.new.self in
    let full = c.fill.new.self in
    let took = c.take_out.ensures in
    let filled = c.fill.ensures in
    let order : below.low ≤ below.high = below.has_gap.order in
    let order' : full.low ≤ full.high = full.has_gap.order in
    let sunk = count_moved p c.args.gapped.now.rows.items below.rows.items c.sink.ensures.carried.rows in
    let sunk' = count_moved p full.rows.items c.sink-2.new.self.rows.items c.sink-2.ensures.carried.rows in
    let grown = blanks_split p (below.high - below.low) (wide.high - below.high) (wide.high - below.low) (omega (arith, took.widened.high)) in
    let cut = blanks_split p (full.high - full.low) (full.low - wide.low) (wide.high - below.low) (omega (arith, took.widened.low, filled.filled.low, filled.filled.high)) in
    let before = ap (λ (m : ℕ). count_by p (replicate m blank)) c.sink.ensures.carried.width in
    let after = ap (λ (m : ℕ). count_by p (replicate m blank)) c.sink-2.ensures.carried.width in
    omega (arith, sunk, sunk', grown, cut, before, after, took.content p, filled.content p)

pub returns-clause-deletions : goal.returns-clause-deletions
returns-clause-deletions g c = TakenFrom-later _ _ _ _ c.piece_tail-from.ensures.low c.take_out.ensures.taken
