use Rattle.ripple_column.specs.Content.{Holds}
use Rattle.bench.proofs.columns.fill.Given as goal

abbrev pub invariant-loop-i : goal.invariant-loop-i
invariant-loop-i g l = Holds l.column l.held.items
