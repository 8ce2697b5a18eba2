use Rattle.std.proofs.Common.{◌≡◌, drop}
use Rattle.column_rows.proofs.front_room_rows.blank_out.Given as goal

abbrev pub invariant-loop-at : goal.invariant-loop-at
invariant-loop-at g l = drop l.to l.rows ≡ drop l.to l.fn.rows
