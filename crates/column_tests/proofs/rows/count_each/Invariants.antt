use Rattle.ripple_column.specs.Content.{SameContent}
use Rattle.column_tests.proofs.rows.count_each.Given as goal

abbrev pub invariant-loop-number : goal.invariant-loop-number
invariant-loop-number g l = SameContent l.initial.column l.column
