use Rattle.set_table.specs.TableAndPassViews.{IsPassOf}
use Rattle.table_tests.proofs.comparisons.claim_all.Given as goal

abbrev pub invariant-loop-key : goal.invariant-loop-key
invariant-loop-key g l = IsPassOf l.table l.pass
