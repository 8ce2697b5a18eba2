use Rattle.std.proofs.Common.{◌≡◌, ℕ, ◌+◌, ◌-◌, arith, subst, take, to_z, of_z, w64}
use Rattle.std.proofs.lemmas.Int.{ints}
use Rattle.std.proofs.lemmas.List.{take_more_set, take-set}
use Rattle.crack_kernel.specs.PartedRows.{IsBelow, IsFrom, ListsDown}
use Rattle.crack_kernel.proofs.PartMoves.{holds_read}
use Rattle.crack_kernel.proofs.Blocks.{one_more_down, one_other_down}
use Rattle.crack_kernel.proofs.crack_from_both_ends.find_below_downwards.Goals as goal
use Rattle.crack_kernel.proofs.crack_from_both_ends.find_below_downwards.Goals.{then-below, else-below}

pub loop-passed-preserved : goal.loop-passed-preserved
loop-passed-preserved g c =
    let v = c.loop-passed.invariant in
    let w = to_z w64 (of_z w64 c.args.v) in
    let rows = c.args.rows.now in
    let found = c.loop-passed.found in
    let count = c.loop-passed.count in
    let i = c.args.to - c.loop-passed.passed - 1 in
    let above : c.args.to - c.loop-passed.passed ≡ i + 1 = omega (arith, c.loop-passed-test.true) in
    let next : i ≡ c.args.to - (c.loop-passed.passed + 1) = omega arith in
    let before = subst (λ (n : ℕ). ListsDown (IsBelow w) (IsFrom w) rows (take count found) n c.args.to) above v.found in
    elim c.if-below.branch [
      | then-below b ↦ record {
        few = omega (arith, v.few, b.count-is);
        found = rw (b.count-is, take_more_set found count i (omega (arith, v.few, c.requires.room, c.loop-passed-test.true)), ← next)
            (one_more_down (IsBelow w) (IsFrom w) rows (take count found) i c.args.to (omega (arith, c.loop-passed-test.true)) before
            (λ d. holds_read (IsBelow w) rows i c.index-rows-i.result (omega (arith, c.loop-passed-test.true, c.requires.within)) c.index-rows-i.is (let t = b.if-below.true in grind (arith, ints)) d));
      }
      | else-below b ↦ record {
        few = omega (arith, v.few, b.count-is);
        found = rw (b.count-is, take-set found count i, ← next)
            (one_other_down (IsBelow w) (IsFrom w) rows (take count found) i c.args.to before
            (λ d. holds_read (IsFrom w) rows i c.index-rows-i.result (omega (arith, c.loop-passed-test.true, c.requires.within)) c.index-rows-i.is (let t = b.if-below.false in grind (arith, ints)) d));
      }
    ]
