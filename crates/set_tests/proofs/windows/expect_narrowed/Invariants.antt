use Rattle.std.proofs.Common.{◌≡◌, None}
use Rattle.set_tests.proofs.windows.expect_narrowed.Given as goal

abbrev pub invariant-loop-text : goal.invariant-loop-text
invariant-loop-text l = l.set.next ≡ None
