use Rattle.std.proofs.Common.{◌≡◌, ◌-◌}
use Rattle.column_rows.proofs.fingerprinted_rows.Rows.find_between.Given as goal

abbrev pub invariant-loop-at : goal.invariant-loop-at
invariant-loop-at g l = l.self ≡ l.fn.self

abbrev pub decreases-loop-at : goal.decreases-loop-at
decreases-loop-at g l = l.to - l.at
