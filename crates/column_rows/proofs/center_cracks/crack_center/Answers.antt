use Rattle.std.proofs.Common.{refl, sym, ◌∙◌, arith}
use Rattle.std.proofs.lemmas.Int.{ints}
use Rattle.crack_kernel.specs.PivotList.{IsNewValue}
use Rattle.column_rows.proofs.CrackSteps.{IsPiece, IsApart-alike, IsPiece-at, IsPiece-from}
use Rattle.column_rows.proofs.Values.{IsApart-new, IsNewValue-none}
use Rattle.column_rows.proofs.center_cracks.crack_center.Goals as goal

pub overflow_sub-to : goal.overflow_sub-to
overflow_sub-to g c =
    let cracked = c.args.pieces.now.cracked in
    let piece = IsPiece-at _ c.args.v c.count_upto-index.result cracked.pivots.list cracked.rows.items _ c.piece_at-from.result (omega (arith, ints)) c.len-rows_len.ensures cracked.law c.count_upto-index.ensures c.piece_at-from.ensures.start c.piece_at-from.ensures.end in
    piece.order

pub returns-clause-still : goal.returns-clause-still
returns-clause-still g c k d outside =
    let ps = c.args.pieces.now.cracked.pivots.list in
    let rows = c.args.pieces.now.cracked.rows.items in
    let law = c.args.pieces.now.cracked.law in
    let v = c.args.v in
    let new : IsNewValue v ps = IsNewValue-none c.find_at.result _ v ps (omega (arith, ints)) c.find_at.ensures (sym c.is_some.ensures ∙ c.if-is_some.false) in
    let piece : IsPiece v ps rows c.piece_at-from.result.0 c.piece_at-from.result.1 =
    IsPiece-at _ v c.count_upto-index.result ps rows _ c.piece_at-from.result (omega (arith, ints)) c.len-rows_len.ensures law c.count_upto-index.ensures c.piece_at-from.ensures.start c.piece_at-from.ensures.end in
    let center = IsPiece-from _ _ ps rows c.piece_of-center_from.result refl law (rw c.len-rows_len.ensures at c.piece_of-center_from.ensures) in
    let alike = rw c.if-center_to-to.false at (rw c.if-center_from-from.false at center) in
    c.crack_inside.ensures.rest k d (IsApart-alike v _ ps rows _ _ (omega (arith, c.if-to-from-lt-CENTERED_ROWS.false, piece.order)) piece alike k (IsApart-new v ps k new outside))
