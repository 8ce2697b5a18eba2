use Rattle.std.proofs.Common.{◌≡◌}
use Rattle.column_rows.specs.RowHash.{mix_bytes}
use Rattle.column_rows.proofs.row_hash.mix_bytes.Given as goal

abbrev pub invariant-loop-i : goal.invariant-loop-i
invariant-loop-i l = l.mixed ≡ mix_bytes l.hash l.bytes l.i
