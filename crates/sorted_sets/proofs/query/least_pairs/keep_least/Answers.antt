use Rattle.std.proofs.Common.{◌≡◌, ◌<◌, ◌≤◌, length, ap, arith}
use Rattle.std.specs.BinaryHeap.{heap_items}
use Rattle.sorted_sets.proofs.LeastPairs.{row_added, row_changed, row_passed}
use Rattle.sorted_sets.proofs.query.least_pairs.keep_least.Goals as goal

pub returns-then-as_slice-count-clause-least : goal.returns-then-as_slice-count-clause-least
returns-then-as_slice-count-clause-least g c all least =
    let items = heap_items c.args.least.now in
    let same : length c.as_slice.result.now ≡ length items = ap length c.as_slice.ensures.value in
    let room : length items < c.args.count = omega (arith, same, c.if-as_slice-count.true) in
    row_added all c.args.count items (heap_items c.push.new.self) c.args.pair room c.in_ok-push.ensures.permutation least

pub returns-in_ok-push-in-Some-clause-least : goal.returns-in_ok-push-in-Some-clause-least
returns-in_ok-push-in-Some-clause-least g c all least =
    let items = heap_items c.args.least.now in
    let same : length c.as_slice.result.now ≡ length items = ap length c.as_slice.ensures.value in
    let full : c.args.count ≤ length items = omega (arith, same, c.if-as_slice-count.false) in
    row_changed all c.args.count items (heap_items c.pop.new.self) (heap_items c.push-in-Some.new.self) c.args.pair c.in-Some.field-0 full c.in-Some.ensures.top
    c.in-Some.ensures.permutation (c.in-Some.ensures.below_top c.requires) (c.is_below_greatest.ensures.under c.if-is_below_greatest.true) c.in_ok-push-in-Some.ensures.permutation least

pub returns-else-is_below_greatest-clause-least : goal.returns-else-is_below_greatest-clause-least
returns-else-is_below_greatest-clause-least g c all least =
    let items = heap_items c.args.least.now in
    let same : length c.as_slice.result.now ≡ length items = ap length c.as_slice.ensures.value in
    let full : c.args.count ≤ length items = omega (arith, same, c.if-as_slice-count.false) in
    row_passed all c.args.count items c.args.pair full (c.is_below_greatest.ensures.over c.if-is_below_greatest.false) least
