use Rattle.std.proofs.Common.{◌≡◌, ◌≤◌, ◌-◌, length}
use Rattle.std.specs.List.{AllWithin}
use Rattle.column_rows.proofs.row_position.skip_others.Given as goal

abbrev pub invariant-loop-i : goal.invariant-loop-i
invariant-loop-i g l = record {
  low : l.from ≤ l.i;
  high : l.i ≤ length l.rows;
  others : AllWithin (λ r. r.0 ≡ l.score → ⊥) l.rows l.from l.i;
}

abbrev pub decreases-loop-i : goal.decreases-loop-i
decreases-loop-i g l = length l.rows - l.i
