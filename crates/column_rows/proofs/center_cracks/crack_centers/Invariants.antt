use Rattle.std.specs.Prelude.{◌≡◌, ℕ, ℤ, List, slice_index_or}
use Rattle.score_bounds.specs.declared.ranges_and_cuts.Cut.TheVariants.{At}
use Rattle.column_rows.specs.RangeCutsAsPivots.{IsUncracked}
use Rattle.column_rows.specs.EffectsOnPieces.{AreCracked}
use Rattle.column_rows.proofs.center_cracks.crack_centers.Given as goal

abbrev pub invariant-loop-turn : goal.invariant-loop-turn
invariant-loop-turn g l = AreCracked l.fn.pieces l.pieces
    × ((k : ℕ) (d : ℤ × List ℕ) → IsUncracked (At l.fn.v) l.fn.pieces.cracked.pivots.list k → slice_index_or l.pieces.cracked.rows.items k d ≡ slice_index_or l.fn.pieces.cracked.rows.items k d)
