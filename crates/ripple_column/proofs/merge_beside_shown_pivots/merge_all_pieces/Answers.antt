use Rattle.column_rows.proofs.InnerPivots.{found_among, found_same, own_values}
use Rattle.ripple_column.proofs.merge_beside_shown_pivots.merge_all_pieces.Goals as goal

pub invariant_of-pieces : goal.invariant_of-pieces
invariant_of-pieces g c =
    let old = c.args.pieces.now in
    record { among = found_same old.apart old.kept.list old.cracked.pivots.list c.merge_all.new.cracked.pivots.list c.in_err-merge_all.ensures.refused.pivots old.among }

pub renew_places-requires : goal.renew_places-requires
renew_places-requires g c =
    let old = c.args.pieces.now in
    own_values old.apart old.kept.list old.cracked.pivots.list c.merge_all.new.cracked.pivots.list old.among c.merge_all.ensures.values

pub invariant_of-pieces-3 : goal.invariant_of-pieces-3
invariant_of-pieces-3 g c = record { among = found_among _ _ c.renew_places.ensures.among }
