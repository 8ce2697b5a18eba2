use Rattle.std.proofs.Common.{◌≡◌, None}
use Rattle.set_tests.proofs.owners.expect_replies.Given as goal

abbrev pub invariant-loop-text : goal.invariant-loop-text
invariant-loop-text l = l.owner.next ≡ None
