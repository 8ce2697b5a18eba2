use Rattle.std.proofs.Common.{◌≡◌, None}
use Rattle.log_tests.proofs.no_memory.first_with_memory.Given as goal

abbrev pub invariant-loop-text : goal.invariant-loop-text
invariant-loop-text g l = l.owner.next ≡ None
