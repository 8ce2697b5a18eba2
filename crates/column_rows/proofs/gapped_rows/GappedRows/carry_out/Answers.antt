use Rattle.std.proofs.Common.{◌≡◌, ◌+◌, ◌-◌, ◌≤◌, ℕ, ℤ, List, length, get_or, replicate, count_by, ap, arith}
use Rattle.std.specs.List.{AllWithin}
use Rattle.crack_kernel.specs.RowBag.{Test}
use Rattle.column_rows.specs.ClosedUp.{closed_up_rows}
use Rattle.column_rows.specs.MergeGap.{blank}
use Rattle.column_rows.proofs.GapRemoval.{count_widened}
use Rattle.column_rows.proofs.gapped_rows.GappedRows.carry_out.Goals as goal

-- what is left once the blank rows of the wide gap are cut off
left : (p : Test) (xs ys zs : List (ℤ × List ℕ)) (low from to by : ℕ) → from ≡ low → from ≤ to → to ≤ length xs → length ys ≡ length xs
    → ((k : ℕ) (d : ℤ × List ℕ) → (from ≤ k → to ≤ k) → get_or ys k d ≡ get_or xs k d) → AllWithin (λ r. r ≡ blank) ys from to
    → by ≡ to - from → count_by p ys ≡ count_by p zs + count_by p (replicate by blank) → count_by p zs ≡ count_by p (closed_up_rows low to xs)
left p xs ys zs low from to by same order within len others blanks wide cut =
    let all = count_widened p xs ys from to order within len others blanks in
    let start = ap (λ (m : ℕ). count_by p (closed_up_rows m to xs)) same in
    let gap = ap (λ (m : ℕ). count_by p (replicate m blank)) wide in
    omega (arith, all, start, gap, cut)

pub returns-then-wide-len-clause-rows : goal.returns-then-wide-len-clause-rows
returns-then-wide-len-clause-rows g c p =
    let w = c.widen.ensures in
    let old = c.args.self in
    let wide = c.widen.new.self in
    left p old.rows.items wide.rows.items c.sink_out.result.0.items old.low old.high c.args.to (wide.high - wide.low)
    c.requires.empty c.requires.order c.requires.within w.len w.others
    (λ k d l u. wide.has_gap.blanks k d (omega (arith, w.low, c.requires.empty)) (omega (arith, w.high))) (omega (arith, w.low, w.high, c.requires.empty)) (c.sink_out.ensures.content p)

pub returns-else-wide-len-clause-rows : goal.returns-else-wide-len-clause-rows
returns-else-wide-len-clause-rows g c p =
    let w = c.widen.ensures in
    let old = c.args.self in
    let wide = c.widen.new.self in
    left p old.rows.items wide.rows.items c.lift_out.result.0.items old.low old.high c.args.to (wide.high - wide.low)
    c.requires.empty c.requires.order c.requires.within w.len w.others
    (λ k d l u. wide.has_gap.blanks k d (omega (arith, w.low, c.requires.empty)) (omega (arith, w.high))) (omega (arith, w.low, w.high, c.requires.empty)) (c.lift_out.ensures.content p)
