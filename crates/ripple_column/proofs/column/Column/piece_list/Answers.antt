use Rattle.column_rows.specs.EffectsOnPieces.{shown}
use Rattle.column_rows.proofs.InnerPivots.{among_found}
use Rattle.ripple_column.proofs.column.Column.piece_list.Goals as goal

pub returns-clause-among : goal.returns-clause-among
returns-clause-among g c =
    let pieces = c.self.inside.pieces in
    rw (← c.self.view_is, c.list.ensures.value) (among_found (shown pieces) pieces.cracked.pivots.list pieces.among)
