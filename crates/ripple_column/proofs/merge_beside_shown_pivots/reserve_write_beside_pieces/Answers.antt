use Rattle.std.proofs.Common.{◌≤◌, ◌+◌, length, max, arith}
use Rattle.std.proofs.lemmas.Bool.Decides.{nat_tests}
use Rattle.column_rows.proofs.InnerPivots.{found_among, found_same, own_values}
use Rattle.ripple_column.proofs.merge_beside_shown_pivots.reserve_write_beside_pieces.Goals as goal

pub renew_places-requires : goal.renew_places-requires
renew_places-requires g c =
    let old = c.args.pieces.now in
    own_values old.apart old.kept.list old.cracked.pivots.list c.reserve_write-reserved.new.cracked.pivots.list old.among c.reserve_write-reserved.ensures.values

pub invariant_of-pieces-then-merging : goal.invariant_of-pieces-then-merging
invariant_of-pieces-then-merging g c = record { among = found_among _ _ c.renew_places.ensures.among }

pub invariant_of-pieces-else-merging : goal.invariant_of-pieces-else-merging
invariant_of-pieces-else-merging g c =
    let old = c.args.pieces.now in
    let waited = c.args.pending.now in
    let few : max (length waited.deletions.items) (length waited.insertions.items) + c.args.n ≤ 2048 = grind (arith, nat_tests, c.if-merging.false, c.max.ensures, c.len.ensures, c.len-2.ensures) in
    record { among = found_same old.apart old.kept.list old.cracked.pivots.list c.reserve_write-reserved.new.cracked.pivots.list (c.reserve_write-reserved.ensures.still few).pivots old.among }
