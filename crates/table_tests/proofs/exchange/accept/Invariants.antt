use Rattle.std.proofs.Common.{◌≡◌, None}
use Rattle.table_tests.proofs.exchange.accept.Given as goal

abbrev pub invariant-loop-text : goal.invariant-loop-text
invariant-loop-text g l = l.owner.next ≡ None
