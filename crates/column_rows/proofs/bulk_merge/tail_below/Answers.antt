use Rattle.std.proofs.Common.{le_refl, arith}
use Rattle.column_rows.proofs.bulk_merge.tail_below.Goals as goal

pub loop-i-init : goal.loop-i-init
loop-i-init g c = (c.requires.order, le_refl _)

pub bounds-list-i : goal.bounds-list-i
bounds-list-i g c = omega (arith, c.requires.within)

pub loop-i-preserved : goal.loop-i-preserved
loop-i-preserved g c = (omega arith, omega arith)

pub returns-else-score-v-clause-low : goal.returns-else-score-v-clause-low
returns-else-score-v-clause-low g c = c.loop-i.invariant.0

pub returns-else-score-v-clause-high : goal.returns-else-score-v-clause-high
returns-else-score-v-clause-high g c = c.loop-i.invariant.1

pub returns-after-loop-i-clause-low : goal.returns-after-loop-i-clause-low
returns-after-loop-i-clause-low g c = c.loop-i.invariant.0

pub returns-after-loop-i-clause-high : goal.returns-after-loop-i-clause-high
returns-after-loop-i-clause-high g c = c.loop-i.invariant.1
