use Rattle.std.proofs.Common.{◌≡◌}
use Rattle.column_rows.specs.GapEffects.{IsCarried}
use Rattle.column_rows.proofs.gapped_rows.GappedRows.lift_out.Given as goal

abbrev pub invariant-loop-piece : goal.invariant-loop-piece
invariant-loop-piece g l = record {
  piece : l.lifted.piece ≡ l._piece;
  carried : IsCarried l.fn.self l.lifted;
}
