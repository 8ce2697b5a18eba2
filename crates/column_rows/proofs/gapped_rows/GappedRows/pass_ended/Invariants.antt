use Rattle.std.proofs.Common.{◌≡◌, length}
use Rattle.column_rows.specs.RangeCutsAsPivots.{values}
use Rattle.column_rows.proofs.gapped_rows.GappedRows.pass_ended.Given as goal

abbrev pub invariant-loop-piece : goal.invariant-loop-piece
invariant-loop-piece g l = record {
  piece : l.self.piece ≡ l._piece;
  low : l.self.low ≡ l.fn.self.low;
  high : l.self.high ≡ l.fn.self.high;
  rows : l.self.rows ≡ l.fn.self.rows;
  long : length l.self.pivots.list ≡ length l.fn.self.pivots.list;
  values : values l.self.pivots.list ≡ values l.fn.self.pivots.list;
  spare : l.self.pivots.spare ≡ l.fn.self.pivots.spare;
}
