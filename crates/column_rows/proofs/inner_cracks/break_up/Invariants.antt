use Rattle.column_rows.specs.EffectsOnPieces.{AreCracked}
use Rattle.column_rows.proofs.inner_cracks.break_up.Given as goal

abbrev pub invariant-loop-i : goal.invariant-loop-i
invariant-loop-i g l = AreCracked l.fn.pieces l.pieces
