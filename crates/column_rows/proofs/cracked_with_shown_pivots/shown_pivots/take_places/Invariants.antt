use Rattle.std.proofs.Common.{◌≡◌, ◌<◌, ℕ, ℤ, get_or, Contains}
use Rattle.column_rows.specs.RangeCutsAsPivots.{values}
use Rattle.column_rows.proofs.cracked_with_shown_pivots.shown_pivots.take_places.Given as goal

abbrev pub invariant-loop-i : goal.invariant-loop-i
invariant-loop-i g l = record {
  values : values l.kept.list ≡ values l.fn.kept.list;
  spare : l.kept.spare ≡ l.fn.kept.spare;
  among : (k : ℕ) (d : ℤ × ℕ) → k < l.i → Contains l.pivots.list (get_or l.kept.list k d);
}
