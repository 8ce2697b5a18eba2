use Rattle.std.proofs.Common.{◌≡◌}
use Rattle.crack_kernel.specs.PivotList.{piece_start}
use Rattle.column_rows.specs.GapEffects.{IsCarried}
use Rattle.column_rows.proofs.merge_pass.carry_to.Given as goal

abbrev pub invariant-loop-piece : goal.invariant-loop-piece
invariant-loop-piece g l = record {
  start : l.gapped.low ≡ piece_start l.gapped.pivots.list l.gapped.piece;
  carried : IsCarried l.fn.gapped l.gapped;
}
