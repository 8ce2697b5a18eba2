use Rattle.std.proofs.Common.{◌≡◌, ◌++◌, replicate, vec_capacity}
use Rattle.column_rows.specs.MergeGap.{blank}
use Rattle.column_rows.proofs.gapped_rows.push_blanks.Given as goal

abbrev pub invariant-loop-pushed : goal.invariant-loop-pushed
invariant-loop-pushed g l = record {
  items : l.rows.items ≡ l.fn.rows.items ++ replicate l._pushed blank;
  capacity : vec_capacity l.rows ≡ vec_capacity l.fn.rows;
}
