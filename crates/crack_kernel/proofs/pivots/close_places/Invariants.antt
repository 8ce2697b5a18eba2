use Rattle.std.proofs.Common.{◌≡◌, ◌++◌, ℕ, ℤ, take, drop, map}
use Rattle.crack_kernel.specs.PivotList.{closed_up}
use Rattle.crack_kernel.proofs.pivots.close_places.Given as goal

abbrev pub invariant-loop-pivot : goal.invariant-loop-pivot
invariant-loop-pivot l = l.pivots ≡ map (λ (p : ℤ × ℕ). (p.0, closed_up l.from l.to p.1)) (take l.pivot-index l.fn.pivots) ++ drop l.pivot-index l.fn.pivots
