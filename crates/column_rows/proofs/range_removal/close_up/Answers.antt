use Rattle.std.proofs.Common.{◌≡◌, ◌≤◌, ◌-◌, ◌∙◌, ◌++◌, ℕ, length, replicate, ap, append-nil, arith}
use Rattle.crack_kernel.specs.PivotList.{piece_end}
use Rattle.crack_kernel.specs.RowBag.{SameBag}
use Rattle.column_rows.specs.ClosedUp.{closed_up_rows}
use Rattle.column_rows.specs.RangeCutsAsPivots.{values}
use Rattle.column_rows.specs.MergeGap.{blank}
use Rattle.column_rows.proofs.Removal.{ObeysPivots-closed_up, placed_in_order}
use Rattle.column_rows.proofs.GapRemoval.{pivots-closed_up}
use Rattle.column_rows.proofs.range_removal.close_up.Goals as goal

pub close_up_in_order-requires-clause-places : goal.close_up_in_order-requires-clause-places
close_up_in_order-requires-clause-places g c =
    let old = c.args.cracked.now in
    placed_in_order old.pivots.list old.rows.items old.law

pub invariant_of-cracked : goal.invariant_of-cracked
invariant_of-cracked g c =
    let old = c.args.cracked.now in
    record { law = rw (c.remove_between.ensures, c.close_up_in_order.ensures.list) (ObeysPivots-closed_up old.pivots.list old.rows.items c.args.from c.args.to c.requires.order c.requires.within old.law) }

pub returns-in-Some-clause-pivots : goal.returns-in-Some-clause-pivots
returns-in-Some-clause-pivots g c =
    let old = c.args.cracked.now in
    let gapped = c.open-gapped.result in
    let opened = c.open-gapped.ensures in
    let out = c.carry_out-rows.ensures in
    let new = c.carry_out-rows.result in
    let taken = c.take.ensures in
    let order : gapped.low ≤ gapped.high = gapped.has_gap.order in
    let none : gapped.high - gapped.low ≡ 0 = omega (arith, opened.high) in
    let rows : gapped.rows.items ≡ old.rows.items =
    opened.rows ∙ ap (λ (n : ℕ). c.take.result.rows.items ++ replicate n blank) none ∙ append-nil c.take.result.rows.items ∙ ap (λ z. z.rows.items) taken in
    let low : gapped.low ≡ c.args.from = opened.low ∙ ap (λ z. piece_end z.pivots.list c.in-Some.piece (length z.rows.items)) taken ∙ c.in-Some.ensures.end in
    let left : SameBag new.0.items (closed_up_rows c.args.from c.args.to old.rows.items) = rw (low, rows) at out.rows in
    let same_values = out.values ∙ opened.frame.values ∙ ap (λ z. values z.pivots.list) taken in
    (pivots-closed_up old.pivots.list new.1.list old.rows.items new.0.items c.args.from c.args.to c.requires.order c.requires.within old.law out.parted same_values left).1
