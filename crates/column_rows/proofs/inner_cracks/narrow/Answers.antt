use Rattle.column_rows.proofs.InnerCracks.{AreCracked-more}
use Rattle.column_rows.proofs.inner_cracks.narrow.Goals as goal

pub returns-then-not-narrow_once : goal.returns-then-not-narrow_once
returns-then-not-narrow_once g c = AreCracked-more _ _ _ c.loop-turn.invariant c.narrow_once.ensures

pub loop-turn-preserved : goal.loop-turn-preserved
loop-turn-preserved g c = AreCracked-more _ _ _ c.loop-turn.invariant c.narrow_once.ensures
