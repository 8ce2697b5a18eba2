use Rattle.std.proofs.Common.{◌≡◌, None}
use Rattle.set_tests.proofs.windows.fill.Given as goal

abbrev pub invariant-loop-turn : goal.invariant-loop-turn
invariant-loop-turn l = l.owner.next ≡ None
