use Rattle.column_rows.proofs.InnerPivots.{among_own}
use Rattle.column_rows.proofs.Removal.{found_closed_up, placed_among, placed_in_order}
use Rattle.column_rows.proofs.range_removal.remove_between.Goals as goal

pub close_up_in_order-requires-clause-places : goal.close_up_in_order-requires-clause-places
close_up_in_order-requires-clause-places g c =
    let old = c.args.pieces.now in
    placed_among old.kept.list old.cracked.pivots.list (among_own old.apart old.kept.list old.cracked.pivots.list c.if-pieces.true old.among)
    (placed_in_order old.cracked.pivots.list old.cracked.rows.items old.cracked.law)

pub invariant_of-pieces : goal.invariant_of-pieces
invariant_of-pieces g c =
    let old = c.args.pieces.now in
    record {
      among = rw (c.if-pieces.true, c.close_up_in_order.ensures.list, c.close_up.ensures.pivots)
          (found_closed_up c.args.from c.args.to old.kept.list old.cracked.pivots.list (rw c.if-pieces.true at old.among));
    }
