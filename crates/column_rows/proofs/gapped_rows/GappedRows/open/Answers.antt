use Rattle.std.proofs.Common.{◌≡◌, ℕ, ℤ, pos, length, get_or, ap, ◌∙◌, arith}
use Rattle.std.proofs.lemmas.List.{get_or_past}
use Rattle.column_rows.proofs.Gaps.{HasGap-empty, HasGap-start}
use Rattle.column_rows.proofs.gapped_rows.GappedRows.open.Goals as goal

pub invariant_of-result : goal.invariant_of-result
invariant_of-result g c =
    let ps = c.args.cracked.pivots.list in
    let xs = c.args.cracked.rows.items in
    let law = c.args.cracked.law in
    let n : c.len.result ≡ length xs = omega arith in
    let at : c.piece_at-low.result.1 ≡ (get_or ps c.args.piece (pos 0, length xs)).1 = rw (← n) c.piece_at-low.ensures.end in
    record { has_gap = HasGap-empty ps xs c.args.piece c.piece_at-low.result.1 law.rising law.parted c.requires.piece at }

pub invariant_of-result-2 : goal.invariant_of-result-2
invariant_of-result-2 g c =
    let ps = c.args.cracked.pivots.list in
    let xs = c.args.cracked.rows.items in
    let law = c.args.cracked.law in
    let n : c.len.result ≡ length xs = omega arith in
    let last : c.args.piece ≡ length ps = omega (arith, c.requires.piece) in
    let at : c.piece_at-low.result.1 ≡ (get_or ps c.args.piece (pos 0, length xs)).1 = rw (← n) c.piece_at-low.ensures.end in
    let low : c.piece_at-low.result.1 ≡ length xs = at ∙ ap (λ (e : ℤ × ℕ). e.1) (get_or_past ps c.args.piece (pos 0, length xs) (omega arith)) in
    record { has_gap = rw (low, last) (HasGap-start ps xs c.push_blanks.new.rows.items c.args.width law.rising law.parted c.push_blanks.ensures.items) }
