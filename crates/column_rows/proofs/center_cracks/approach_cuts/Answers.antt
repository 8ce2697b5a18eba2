use Rattle.std.proofs.Common.{◌∙◌}
use Rattle.column_rows.specs.EffectsOnPieces.{shown}
use Rattle.column_rows.specs.ShownPivots.{IsAmong}
use Rattle.column_rows.proofs.InnerCracks.{AreCracked-more}
use Rattle.column_rows.proofs.InnerPivots.{among_found}
use Rattle.column_rows.proofs.Values.{IsUncracked-kept}
use Rattle.column_rows.proofs.center_cracks.approach_cuts.Goals as goal

pub returns-clause-cracked : goal.returns-clause-cracked
returns-clause-cracked g c = AreCracked-more _ _ _ c.approach_cut.ensures.cracked c.approach_cut-2.ensures.cracked

pub returns-clause-still : goal.returns-clause-still
returns-clause-still g c k d first second =
    let old = c.args.pieces.now in
    let all = old.cracked.pivots.list in
    let near = c.approach_cut.new.pieces in
    let among : IsAmong (shown old) all = among_found (shown old) all old.among in
    let more : IsAmong all near.cracked.pivots.list = c.approach_cut.ensures.cracked.among in
    let kept = IsUncracked-kept c.args.first.now (shown old) all k among first in
    let kept' = IsUncracked-kept c.args.second.now all near.cracked.pivots.list k more (IsUncracked-kept c.args.second.now (shown old) all k among second) in
    c.approach_cut-2.ensures.still k d kept' ∙ c.approach_cut.ensures.still k d kept
