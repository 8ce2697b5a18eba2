use Rattle.std.proofs.Common.{◌≡◌, ◌⊎◌, ◌-◌, IsPermutation}
use Rattle.crack_kernel.specs.CrackedEnds.{HasCrackedEnds, IsDone}
use Rattle.crack_kernel.proofs.crack.crack_ends.Given as goal

abbrev pub invariant-loop-ends : goal.invariant-loop-ends
invariant-loop-ends g l = record {
  moves : IsPermutation l.fn.rows l.rows;
  value : l.ends.value ≡ l.v;
  cracked : HasCrackedEnds l.ends l.rows;
  done : IsDone l.ends.lower ⊎ IsDone l.ends.upper;
}

abbrev pub decreases-loop-ends : goal.decreases-loop-ends
decreases-loop-ends g l = l.ends.upper.from - l.ends.lower.to
