use Rattle.std.proofs.Common.{◌≡◌, ◌+◌}
use Rattle.crack_kernel.specs.PivotList.{piece_start}
use Rattle.column_rows.specs.GapEffects.{IsCarried}
use Rattle.column_rows.proofs.gapped_rows.GappedRows.sink_out.Given as goal

abbrev pub invariant-loop-piece : goal.invariant-loop-piece
invariant-loop-piece g l = record {
  start : l.sunk.low ≡ piece_start l.sunk.pivots.list l.sunk.piece;
  at : l.sunk.piece + l._piece ≡ l.fn.self.piece;
  carried : IsCarried l.fn.self l.sunk;
}
