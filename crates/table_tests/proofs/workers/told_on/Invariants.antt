use Rattle.std.specs.Prelude.{◌≡◌}
use Rattle.table_tests.proofs.workers.told_on.Given as goal

abbrev pub invariant-loop-command : goal.invariant-loop-command
invariant-loop-command g l = l.worker.table ≡ l.initial.worker.table
