use Rattle.column_tests.specs.Known.{HoldsAll}
use Rattle.column_tests.proofs.steps.right_steps.Given as goal

abbrev pub invariant-loop-step : goal.invariant-loop-step
invariant-loop-step l = HoldsAll l.column l.known.items
