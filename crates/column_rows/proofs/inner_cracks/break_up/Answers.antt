use Rattle.column_rows.proofs.InnerCracks.{AreCracked-more}
use Rattle.column_rows.proofs.inner_cracks.break_up.Goals as goal

pub loop-i-preserved : goal.loop-i-preserved
loop-i-preserved g c = AreCracked-more _ _ _ c.loop-i.invariant c.break_piece.ensures
