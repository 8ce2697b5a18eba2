use Rattle.ripple_column.specs.Content.{Holds}
use Rattle.column_tests.proofs.merges.are_driven_alike.Given as goal

abbrev pub invariant-loop-round : goal.invariant-loop-round
invariant-loop-round l = Holds l.one.column l.one.held.items × Holds l.other.column l.other.held.items
