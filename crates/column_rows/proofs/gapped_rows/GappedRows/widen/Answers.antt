use Rattle.std.proofs.Common.{◌≢◌, ◌+◌, ◌≤◌, length, get_or, vec_capacity, ap, ◌∙◌, arith}
use Rattle.crack_kernel.specs.PivotList.{PivotList}
use Rattle.column_rows.specs.RangeCutsAsPivots.{values}
use Rattle.column_rows.specs.MergeEffects.{KeepsFrame}
use Rattle.column_rows.proofs.Frames.{KeepsFrame-more}
use Rattle.column_rows.proofs.gapped_rows.GappedRows.widen.Goals as goal

pub loop-at-preserved : goal.loop-at-preserved
loop-at-preserved g c =
    let v = c.loop-at.invariant in
    let e = c.pass_ended.ensures in
    let b = c.blank_out.ensures in
    let mid = c.pass_ended.new.self in
    let new = c.blank_out.new.self in
    let passed : KeepsFrame c.loop-at.self.rows c.loop-at.self.pivots mid.rows mid.pivots = record { values = e.values; spare = e.spare; capacity = ap vec_capacity e.rows } in
    let blanked : KeepsFrame mid.rows mid.pivots new.rows new.pivots = record {
      values = ap (λ (z : PivotList). values z.list) b.widened.pivots;
      spare = ap (λ (z : PivotList). z.spare) b.widened.pivots;
      capacity = b.widened.capacity;
    } in
    record {
      from = omega (arith, v.from);
      high = omega (arith, b.high, e.high, v.high);
      low = b.widened.low ∙ e.low ∙ v.low;
      len = b.widened.len ∙ ap (λ z. length z.items) e.rows ∙ v.len;
      others = λ k d f.
          let off : k ≢ c.pass_ended.new.self.high = λ same.
          let past : c.loop-at._at + 1 ≤ k = f (omega (arith, same, e.high, v.high, v.from)) in
          omega (arith, past, same, e.high, v.high) in
          b.others k d off off ∙ ap (λ z. get_or z.items k d) e.rows ∙ v.others k d (λ h. omega (arith, f h));
      frame = KeepsFrame-more v.frame (KeepsFrame-more passed blanked);
    }
