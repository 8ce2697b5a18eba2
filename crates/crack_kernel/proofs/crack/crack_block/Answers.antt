use Rattle.std.proofs.Common.{◌+◌, ◌≡◌, take, drop, get_or, arith, rules, subst, to_z, of_z, to_z-of_z, w64, SFits, []}
use Rattle.std.proofs.lemmas.List.Sorted.{IsPermutation-trans}
use Rattle.std.proofs.lemmas.Grind.{common_steps}
use Rattle.std.specs.List.{AllWithin}
use Rattle.crack_kernel.specs.PartedRows.{IsBelow, IsFrom, Lists}
use Rattle.crack_kernel.proofs.PartMoves.{AllWithin-swapped}
use Rattle.crack_kernel.proofs.Blocks.{stretched, swapped_before, first_left}
use Rattle.crack_kernel.proofs.crack.crack_block.Goals as goal

pub loop-i-init : goal.loop-i-init
loop-i-init g c =
    let fits : SFits w64 c.args.v = search rules in
    let same = to_z-of_z fits in
    let lists = subst (λ z. Lists (IsBelow z) (IsFrom z) c.args.rows.now (take c.find_below-count.result c.find_below-count.new.found) c.args.from c.args.to) same c.find_below-count.ensures.found in
    let left = stretched (IsBelow c.args.v) (IsFrom c.args.v) c.args.rows.now _ c.args.place c.args.from c.args.to c.requires.order.0 c.requires.behind lists in
    record {
      order = omega (arith, c.requires.order);
      moves = search rules;
      before = rw same c.requires.below;
      left = rw same left;
    }

pub swap-requires-clause-a_in_bounds : goal.swap-requires-clause-a_in_bounds
swap-requires-clause-a_in_bounds g c =
    let lists = first_left (λ ps. Lists (IsBelow (to_z w64 (of_z w64 c.args.v))) (IsFrom (to_z w64 (of_z w64 c.args.v))) c.loop-i.rows ps c.loop-i.next c.args.to) c.find_below-count.new.found c.find_below-count.result c.loop-i.i c.loop-i-test.true (omega (arith, c.find_below-count.ensures.few, c.find_below-count.array_long)) c.loop-i.invariant.left in
    omega (arith, lists.0, lists.1, c.requires.within, c.loop-i.auto.rows)

pub swap-requires-clause-b_in_bounds : goal.swap-requires-clause-b_in_bounds
swap-requires-clause-b_in_bounds g c =
    let lists = first_left (λ ps. Lists (IsBelow (to_z w64 (of_z w64 c.args.v))) (IsFrom (to_z w64 (of_z w64 c.args.v))) c.loop-i.rows ps c.loop-i.next c.args.to) c.find_below-count.new.found c.find_below-count.result c.loop-i.i c.loop-i-test.true (omega (arith, c.find_below-count.ensures.few, c.find_below-count.array_long)) c.loop-i.invariant.left in
    omega (arith, lists.1, c.requires.within, c.loop-i.auto.rows)

pub loop-i-preserved : goal.loop-i-preserved
loop-i-preserved g c =
    let v = c.loop-i.invariant in
    let w = to_z w64 (of_z w64 c.args.v) in
    let s = c.swap.ensures in
    let rows = c.loop-i.rows in
    let next = c.loop-i.next in
    let at = get_or c.find_below-count.new.found c.loop-i.i 0 in
    let lists = first_left (λ ps. Lists (IsBelow (to_z w64 (of_z w64 c.args.v))) (IsFrom (to_z w64 (of_z w64 c.args.v))) c.loop-i.rows ps c.loop-i.next c.args.to) c.find_below-count.new.found c.find_below-count.result c.loop-i.i c.loop-i-test.true (omega (arith, c.find_below-count.ensures.few, c.find_below-count.array_long)) c.loop-i.invariant.left in
    let rest = swapped_before (IsBelow w) (IsFrom w) rows c.swap.new.self next at _ (at + 1) c.args.to s.by_index (omega (arith, lists.0)) (omega arith) lists.4 in
    let moved : AllWithin (IsFrom w) c.swap.new.self (next + 1) (at + 1) = AllWithin-swapped (IsFrom w) rows c.swap.new.self next at (next + 1) (at + 1) s.by_index
    (λ k d l h ni nj. lists.2 k d (omega arith) (omega arith)) (λ l h n d. absurd (omega arith)) (λ l h d. lists.2 next d (omega arith) (omega arith)) in
    record {
      order = omega (arith, lists.0, lists.1);
      moves = IsPermutation-trans _ _ _ v.moves s.permutation;
      before = AllWithin-swapped (IsBelow w) rows c.swap.new.self next at 0 (next + 1) s.by_index
          (λ k d l h ni nj. v.before k d l (omega arith)) (λ l h n d. lists.3 d) (λ l h d. subst (λ p. IsBelow w (get_or rows p d)) (omega (arith, lists.0, l, h)) (lists.3 d));
      left = stretched (IsBelow w) (IsFrom w) c.swap.new.self _ (next + 1) (at + 1) c.args.to (omega (arith, lists.0)) moved rest;
    }

pub returns-clause-behind : goal.returns-clause-behind
returns-clause-behind g c =
    let fits : SFits w64 c.args.v = search rules in
    let none : drop c.loop-i.i (take c.find_below-count.result c.find_below-count.new.found) ≡ [] = grind (arith, common_steps) in
    let behind = subst (λ ps. Lists (IsBelow (to_z w64 (of_z w64 c.args.v))) (IsFrom (to_z w64 (of_z w64 c.args.v))) c.loop-i.rows ps c.loop-i.next c.args.to) none c.loop-i.invariant.left in
    subst (λ z. AllWithin (IsFrom z) c.loop-i.rows c.loop-i.next c.args.to) (to_z-of_z fits) behind
