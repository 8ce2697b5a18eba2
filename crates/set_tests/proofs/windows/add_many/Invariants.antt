use Rattle.std.proofs.Common.{◌≡◌, None}
use Rattle.set_tests.proofs.windows.add_many.Given as goal

abbrev pub invariant-loop-member : goal.invariant-loop-member
invariant-loop-member l = l.set.next ≡ None
