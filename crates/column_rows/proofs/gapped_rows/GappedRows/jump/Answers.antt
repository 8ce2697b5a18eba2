use Rattle.std.proofs.Common.{◌≡◌, ℕ, pos, length, get_or, subst, arith}
use Rattle.column_rows.specs.MergeGap.{HasGap}
use Rattle.column_rows.proofs.Gaps.{HasGap-moved}
use Rattle.column_rows.proofs.gapped_rows.GappedRows.jump.Goals as goal

pub invariant_of-self : goal.invariant_of-self
invariant_of-self g c =
    let old = c.args.self.now in
    let ps = old.pivots.list in
    let xs = old.rows.items in
    let n : c.len.result ≡ length xs = omega arith in
    let at : c.piece_at-end.result.1 ≡ (get_or ps c.args.piece (pos 0, length xs)).1 = rw (← n) c.piece_at-end.ensures.end in
    let here : HasGap ps xs old.piece old.low old.low = subst (λ (m : ℕ). HasGap ps xs old.piece old.low m) c.requires.empty old.has_gap in
    record { has_gap = HasGap-moved ps xs old.piece old.low c.args.piece c.piece_at-end.result.1 c.requires.piece at here }
