use Rattle.std.proofs.Common.{◌+◌, ◌≤◌, length, vec_len, vec_capacity}
use Rattle.column_rows.specs.Content.{KeepsContent}
use Rattle.column_rows.specs.MergeGap.{TakenFrom}
use Rattle.column_rows.specs.MergeEffects.{KeepsFrame}
use Rattle.column_rows.proofs.bulk_merge.merge_tails.Given as goal

abbrev pub invariant-loop-turn : goal.invariant-loop-turn
invariant-loop-turn g l = record {
  piece : l.piece ≤ length l.cracked.pivots.list;
  content : KeepsContent l.fn.cracked.rows.items l.fn.pending.insertions.items l.fn.pending.deletions.items l.cracked.rows.items l.pending.insertions.items l.pending.deletions.items;
  deletions : TakenFrom l.deletions_from l.fn.pending.deletions.items l.pending.deletions.items;
  insertions : TakenFrom l.insertions_from l.fn.pending.insertions.items l.pending.insertions.items;
  room : vec_len l.cracked.rows + length l.pending.insertions.items ≤ vec_capacity l.cracked.rows + l.insertions_from;
  frame : KeepsFrame l.fn.cracked.rows l.fn.cracked.pivots l.cracked.rows l.cracked.pivots;
}
