use Rattle.std.proofs.Common.{arith, take}
use Rattle.std.proofs.lemmas.Int.{ints}
use Rattle.std.proofs.lemmas.List.{take_more_set, take-set}
use Rattle.crack_kernel.specs.PartedRows.{IsBelow, IsFrom}
use Rattle.crack_kernel.proofs.PartMoves.{holds_read}
use Rattle.crack_kernel.proofs.Blocks.{one_more, one_other}
use Rattle.crack_kernel.proofs.crack.find_below.Goals as goal
use Rattle.crack_kernel.proofs.crack.find_below.Goals.{then-below, else-below}

pub loop-i-preserved : goal.loop-i-preserved
loop-i-preserved g c =
    let v = c.loop-i.invariant in
    let rows = c.args.rows.now in
    let found = c.loop-i.found in
    let count = c.loop-i.count in
    let i = c.loop-i.i in
    elim c.if-below.branch [
      | then-below w ↦ record {
        few = omega (arith, v.few, w.count-is);
        found = rw (w.count-is, take_more_set found count i (omega (arith, v.few, c.requires.room, c.loop-i-test.true)))
            (one_more (IsBelow _) (IsFrom _) rows (take count found) c.args.from i c.loop-i.auto.i v.found
            (λ d. holds_read (IsBelow _) rows i c.index-rows-i.result (omega arith) c.index-rows-i.is (let t = w.if-below.true in grind (arith, ints)) d));
      }
      | else-below w ↦ record {
        few = omega (arith, v.few, w.count-is);
        found = rw (w.count-is, take-set found count i)
            (one_other (IsBelow _) (IsFrom _) rows (take count found) c.args.from i v.found
            (λ d. holds_read (IsFrom _) rows i c.index-rows-i.result (omega arith) c.index-rows-i.is (let t = w.if-below.false in grind (arith, ints)) d));
      }
    ]
