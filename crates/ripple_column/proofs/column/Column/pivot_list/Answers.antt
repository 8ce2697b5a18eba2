use Rattle.column_rows.specs.EffectsOnPieces.{shown}
use Rattle.column_rows.proofs.InnerPivots.{ObeysPivots-among, among_found}
use Rattle.ripple_column.proofs.column.Column.pivot_list.Goals as goal

pub returns-clause-law : goal.returns-clause-law
returns-clause-law g c =
    let pieces = c.self.inside.pieces in
    let all = pieces.cracked.pivots.list in
    rw (← c.self.view_is)
    (ObeysPivots-among (shown pieces) all pieces.cracked.rows.items (among_found (shown pieces) all pieces.among) pieces.cracked.law c.shown.ensures.rising (rw c.shown.ensures.list at c.list.ensures.few))
