-- What contracts see of a column, and what is true of every one.
use Rattle.std.specs.Prelude.{◌≤◌, ◌-◌, min, length, vec_len, vec_capacity}
use Rattle.crack_kernel.specs.RowBag.{IsSubBag}
use Rattle.column_rows.specs.Content.{ColumnState, IsScored, max_pending}
use Rattle.column_rows.specs.EffectsOnPieces.{shown}
use Rattle.ripple_column.specs.declared.column.Column.TheInside.{Inside}

-- the fields, and the room in the two lists of pending rows, which never pass max_pending rows
abbrev pub state : {A : Type 0} → Inside A → ColumnState
state c = record {
  rows = c.pieces.cracked.rows.items;
  pivots = shown c.pieces;
  insertions = c.pending.insertions.items;
  deletions = c.pending.deletions.items;
  insert_spare = min (vec_capacity c.pending.insertions) max_pending - vec_len c.pending.insertions;
  delete_spare = min (vec_capacity c.pending.deletions) max_pending - vec_len c.pending.deletions;
}

-- the pending deletions are among the rows, and each list of pending rows has at most max_pending
pub record ColumnViewAndInvariant (c : ColumnState) : Type 0 where
  pub part : IsSubBag c.deletions c.rows
  pub scored_rows : IsScored c.rows
  pub scored_insertions : IsScored c.insertions
  pub few_insertions : length c.insertions ≤ max_pending
  pub few_deletions : length c.deletions ≤ max_pending
