use Rattle.std.proofs.Common.{◌≡◌, ◌≤◌, ℕ, ℤ, List, length, refl}
use Rattle.crack_kernel.specs.PivotList.{IsPieceOf, ObeysPivots}
use Rattle.column_rows.proofs.CrackSteps.{IsPiece, IsPiece-from}
use Rattle.column_rows.proofs.inner_cracks.break_piece.Goals as goal

-- the piece of a value begins where it ends or before
ordered : (v : ℤ) (ps : List (ℤ × ℕ)) (rows : List (ℤ × List ℕ)) (rows_len : ℕ) (piece : ℕ × ℕ) → rows_len ≡ length rows → ObeysPivots ps rows → IsPieceOf v ps rows_len piece → piece.0 ≤ piece.1
ordered v ps rows rows_len piece long law of = let is : IsPiece v ps rows piece.0 piece.1 = IsPiece-from v v ps rows piece refl law (rw long at of) in is.order

pub overflow_sub-to : goal.overflow_sub-to
overflow_sub-to g c = ordered _ _ _ _ c.piece_of-from.result c.len.ensures c.args.pieces.now.cracked.law c.piece_of-from.ensures

pub slice_bounds-parting_score-count : goal.slice_bounds-parting_score-count
slice_bounds-parting_score-count g c = ordered _ _ _ _ c.piece_of-from.result c.len.ensures c.args.pieces.now.cracked.law c.piece_of-from.ensures

pub slice_bounds-parting_score-start : goal.slice_bounds-parting_score-start
slice_bounds-parting_score-start g c = ordered _ _ _ _ c.piece_of-from.result c.len.ensures c.args.pieces.now.cracked.law c.piece_of-from.ensures

pub overflow_sub-to-2 : goal.overflow_sub-to-2
overflow_sub-to-2 g c = ordered _ _ _ _ c.piece_of-from.result c.len.ensures c.args.pieces.now.cracked.law c.piece_of-from.ensures
