use Rattle.ripple_column.specs.Content.{Holds}
use Rattle.bench.proofs.columns.Driven.count_often.Given as goal

abbrev pub invariant-loop : goal.invariant-loop
invariant-loop l = Holds l.self.column l.self.held.items
