use Rattle.column_rows.proofs.Carried.{IsCarried-more}
use Rattle.column_rows.proofs.merge_pass.carry_to.Goals as goal

pub loop-piece-preserved : goal.loop-piece-preserved
loop-piece-preserved g c = record {
  start = c.sink.ensures.start;
  carried = IsCarried-more c.loop-piece.invariant.carried (IsCarried-more c.next_piece.ensures.carried c.sink.ensures.carried);
}
