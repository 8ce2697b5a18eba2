use Rattle.table_lifetime.specs.Opening.{AreEmptySets}
use Rattle.table_lifetime.proofs.opening.placing.empty_sets.Given as goal

abbrev pub invariant-loop : goal.invariant-loop
invariant-loop g l = AreEmptySets l.counter l.sets.items
