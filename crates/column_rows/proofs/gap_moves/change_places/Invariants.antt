use Rattle.std.proofs.Common.{◌≡◌, length, IsPermutation, vec_capacity}
use Rattle.column_rows.proofs.Windows.{BlocksSwapped}
use Rattle.column_rows.proofs.gap_moves.change_places.Given as goal

abbrev pub invariant-loop-i : goal.invariant-loop-i
invariant-loop-i g l = record {
  moves : IsPermutation l.fn.rows.items l.rows.items;
  blocks : BlocksSwapped l.fn.rows.items l.rows.items l.low l.from l.i;
  len : length l.rows.items ≡ length l.fn.rows.items;
  capacity : vec_capacity l.rows ≡ vec_capacity l.fn.rows;
}
