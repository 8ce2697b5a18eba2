use Rattle.column_rows.specs.StandsWithin.{StandsWithin}
use Rattle.ripple_column.proofs.ripple.first_between.Given as goal

abbrev pub invariant-loop-at : goal.invariant-loop-at
invariant-loop-at g l = StandsWithin l.row l.rows l.at l.to
