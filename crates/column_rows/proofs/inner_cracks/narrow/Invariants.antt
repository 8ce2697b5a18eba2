use Rattle.column_rows.specs.EffectsOnPieces.{AreCracked}
use Rattle.column_rows.proofs.inner_cracks.narrow.Given as goal

abbrev pub invariant-loop-turn : goal.invariant-loop-turn
invariant-loop-turn g l = AreCracked l.fn.pieces l.pieces
