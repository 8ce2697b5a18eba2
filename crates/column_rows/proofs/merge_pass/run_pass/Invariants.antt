use Rattle.std.proofs.Common.{◌≡◌, ◌-◌}
use Rattle.crack_kernel.specs.PivotList.{piece_start}
use Rattle.column_rows.specs.MergeGap.{KeepsContentBeside, TakenFrom}
use Rattle.column_rows.specs.MergeEffects.{KeepsFrame}
use Rattle.column_rows.proofs.merge_pass.run_pass.Given as goal

abbrev pub invariant-loop-passed : goal.invariant-loop-passed
invariant-loop-passed g l = record {
  start : l.gapped.low ≡ piece_start l.gapped.pivots.list l.gapped.piece;
  content : KeepsContentBeside 0 l.fn.cracked.rows.items l.fn.pending.insertions.items l.fn.pending.deletions.items (l.gapped.high - l.gapped.low) l.gapped.rows.items l.pending.insertions.items l.pending.deletions.items;
  deletions : TakenFrom l.pass.deletions l.fn.pending.deletions.items l.pending.deletions.items;
  insertions : TakenFrom l.pass.insertions l.fn.pending.insertions.items l.pending.insertions.items;
  frame : KeepsFrame l.fn.cracked.rows l.fn.cracked.pivots l.gapped.rows l.gapped.pivots;
}
