use Rattle.std.proofs.Common.{◌∙◌, arith}
use Rattle.column_rows.proofs.Gaps.{length-values}
use Rattle.column_rows.proofs.gapped_rows.GappedRows.pass_ended.Goals as goal

pub loop-piece-preserved : goal.loop-piece-preserved
loop-piece-preserved g c =
    let v = c.loop-piece.invariant in
    let n = c.pass_pivot.ensures in
    record {
      piece = omega (arith, v.piece, n.passed c.if-not-pass_pivot.false);
      low = n.low ∙ v.low;
      high = n.high ∙ v.high;
      rows = n.rows ∙ v.rows;
      long = length-values _ _ n.values ∙ v.long;
      values = n.values ∙ v.values;
      spare = n.spare ∙ v.spare;
    }
