use Rattle.set_table.specs.TableAndPassViews.{IsPassOf}
use Rattle.table_tests.proofs.exchange.answers.Given as goal

abbrev pub invariant-loop-text : goal.invariant-loop-text
invariant-loop-text g l = IsPassOf l.table l.pass
