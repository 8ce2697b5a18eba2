use Rattle.std.proofs.Common.{◌≡◌}
use Rattle.column_rows.specs.RowHash.{mix_words}
use Rattle.column_rows.proofs.row_hash.mix_words.Given as goal

abbrev pub invariant-loop-i : goal.invariant-loop-i
invariant-loop-i l = l.mixed ≡ mix_words l.hash l.bytes l.i
