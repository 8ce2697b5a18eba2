use Rattle.std.proofs.Common.{◌≡◌, None}
use Rattle.set_tests.proofs.columns.count_all.Given as goal

abbrev pub invariant-loop-i : goal.invariant-loop-i
invariant-loop-i l = l.set.next ≡ None
