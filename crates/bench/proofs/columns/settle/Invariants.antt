use Rattle.ripple_column.specs.Content.{SameContent}
use Rattle.bench.proofs.columns.settle.Given as goal

abbrev pub invariant-loop : goal.invariant-loop
invariant-loop g l = SameContent l.fn.column l.column
