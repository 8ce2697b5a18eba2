use Rattle.std.proofs.Common.{◌≡◌, ◌++◌, take, drop, map, true}
use Rattle.crack_kernel.specs.PivotList.{shifted_pivot}
use Rattle.crack_kernel.proofs.pivots.raise.Given as goal

abbrev pub invariant-loop-pivot : goal.invariant-loop-pivot
invariant-loop-pivot l = l.pivots ≡ map (shifted_pivot true) (take l.pivot-index l.fn.pivots) ++ drop l.pivot-index l.fn.pivots
