use Rattle.std.proofs.Common.{◌≡◌, ◌<◌, ℕ, ◌+◌, take, drop, get_or, arith, subst}
use Rattle.std.proofs.lemmas.List.Sorted.{IsPermutation-trans}
use Rattle.crack_kernel.specs.PartedRows.{IsBelow, IsFrom, Lists, ListsDown}
use Rattle.crack_kernel.proofs.PartMoves.{AllWithin-swapped}
use Rattle.crack_kernel.proofs.Blocks.{exchanged, exchanged_down, first_left}
use Rattle.crack_kernel.proofs.crack_from_both_ends.Ends.exchange.Goals as goal

pub swap-requires-clause-a_in_bounds : goal.swap-requires-clause-a_in_bounds
swap-requires-clause-a_in_bounds g c =
    let low = first_left (λ ps. Lists (IsFrom c.args.self.now.value) (IsBelow c.args.self.now.value) c.loop-i.rows ps c.args.self.now.lower.from c.args.self.now.lower.to) c.args.self.now.lower.places c.args.self.now.lower.count (c.args.self.now.lower.next + c.loop-i.i) (omega (arith, c.loop-i-test.true, c.min-pairs.ensures)) (omega (arith, c.requires.lower_order.room, c.type_inv.self)) c.loop-i.invariant.lower in
    omega (arith, low.1, c.requires.apart, c.requires.upper_order.places, c.requires.within, c.loop-i.auto.rows)

pub swap-requires-clause-b_in_bounds : goal.swap-requires-clause-b_in_bounds
swap-requires-clause-b_in_bounds g c =
    let high = first_left (λ ps. ListsDown (IsBelow c.args.self.now.value) (IsFrom c.args.self.now.value) c.loop-i.rows ps c.args.self.now.upper.from c.args.self.now.upper.to) c.args.self.now.upper.places c.args.self.now.upper.count (c.args.self.now.upper.next + c.loop-i.i) (omega (arith, c.loop-i-test.true, c.min-pairs.ensures)) (omega (arith, c.requires.upper_order.room, c.type_inv.self)) c.loop-i.invariant.upper in
    omega (arith, high.1, c.requires.within, c.loop-i.auto.rows)

pub loop-i-preserved : goal.loop-i-preserved
loop-i-preserved g c =
    let ends = c.args.self.now in
    let v = c.loop-i.invariant in
    let s = c.swap.ensures in
    let rows = c.loop-i.rows in
    let new = c.swap.new.self in
    let low = first_left (λ ps. Lists (IsFrom c.args.self.now.value) (IsBelow c.args.self.now.value) c.loop-i.rows ps c.args.self.now.lower.from c.args.self.now.lower.to) c.args.self.now.lower.places c.args.self.now.lower.count (c.args.self.now.lower.next + c.loop-i.i) (omega (arith, c.loop-i-test.true, c.min-pairs.ensures)) (omega (arith, c.requires.lower_order.room, c.type_inv.self)) c.loop-i.invariant.lower in
    let high = first_left (λ ps. ListsDown (IsBelow c.args.self.now.value) (IsFrom c.args.self.now.value) c.loop-i.rows ps c.args.self.now.upper.from c.args.self.now.upper.to) c.args.self.now.upper.places c.args.self.now.upper.count (c.args.self.now.upper.next + c.loop-i.i) (omega (arith, c.loop-i-test.true, c.min-pairs.ensures)) (omega (arith, c.requires.upper_order.room, c.type_inv.self)) c.loop-i.invariant.upper in
    let i = get_or ends.lower.places (ends.lower.next + c.loop-i.i) 0 in
    let j = get_or ends.upper.places (ends.upper.next + c.loop-i.i) 0 in
    let apart : i < j = omega (arith, low.1, high.0, c.requires.apart) in
    let next_lower : ends.lower.next + c.loop-i.i + 1 ≡ ends.lower.next + (c.loop-i.i + 1) = omega arith in
    let next_upper : ends.upper.next + c.loop-i.i + 1 ≡ ends.upper.next + (c.loop-i.i + 1) = omega arith in
    let lower = exchanged (IsFrom ends.value) (IsBelow ends.value) rows new i j _ ends.lower.from ends.lower.to s.by_index (omega (arith, high.0, c.requires.apart)) high.3 low in
    let upper = exchanged_down (IsBelow ends.value) (IsFrom ends.value) rows new i j _ ends.upper.from ends.upper.to s.by_index (omega (arith, low.1, c.requires.apart)) low.3 high in
    record {
      moves = IsPermutation-trans _ _ _ v.moves s.permutation;
      below = AllWithin-swapped (IsBelow ends.value) rows new i j 0 ends.lower.from s.by_index
          (λ k d l h ni nj. v.below k d l h) (λ l h n d. absurd (omega (arith, low.0, h))) (λ l h d. absurd (omega (arith, low.0, apart, h)));
      lower = subst (λ (n : ℕ). Lists (IsFrom ends.value) (IsBelow ends.value) new (drop n (take ends.lower.count ends.lower.places)) ends.lower.from ends.lower.to) next_lower lower;
      upper = subst (λ (n : ℕ). ListsDown (IsBelow ends.value) (IsFrom ends.value) new (drop n (take ends.upper.count ends.upper.places)) ends.upper.from ends.upper.to) next_upper upper;
      behind = AllWithin-swapped (IsFrom ends.value) rows new i j ends.upper.to _ s.by_index
          (λ k d l h ni nj. v.behind k d l (omega (arith, h, c.swap.auto.self))) (λ l h n d. absurd (omega (arith, high.1, apart, l))) (λ l h d. absurd (omega (arith, high.1, l)));
    }
