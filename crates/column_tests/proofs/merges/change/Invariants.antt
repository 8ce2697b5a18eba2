use Rattle.ripple_column.specs.Content.{Holds}
use Rattle.column_tests.proofs.merges.change.Given as goal

abbrev pub invariant-loop-i : goal.invariant-loop-i
invariant-loop-i l = Holds l.column l.held.items
