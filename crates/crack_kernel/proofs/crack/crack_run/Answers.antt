use Rattle.std.proofs.Common.{arith, to_z-of_z, w64, SFits, rules}
use Rattle.std.proofs.lemmas.List.Sorted.{IsPermutation-trans}
use Rattle.crack_kernel.proofs.crack.crack_run.Goals as goal

pub loop-from-preserved : goal.loop-from-preserved
loop-from-preserved g c =
    let fits : SFits w64 c.args.v = search rules in
    let same = to_z-of_z fits in
    let block = c.crack_block-place.ensures in
    record {
      order = block.order;
      within = omega (arith, c.min.ensures, c.crack_block-place.auto.rows, c.loop-from.auto.rows);
      moves = IsPermutation-trans _ _ _ c.loop-from.invariant.moves block.permutation;
      before = block.below;
      behind = block.behind;
    }
