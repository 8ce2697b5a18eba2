-- What the moves of a gap over the pieces of a column leave.
use Rattle.std.specs.Prelude.{◌≡◌, ◌-◌, ◌≤◌, length, IsPermutation, vec_capacity}
use Rattle.column_rows.specs.MergeEffects.{KeepsFrame}
use Rattle.column_rows.specs.declared.gapped_rows.GappedRows.{GappedRows}

-- the gap went over rows: it is as wide as before, the rows stand in another order, the pivots keep their values, and pivots and
-- rows their room
pub record IsCarried {A : Type 0} (old new : GappedRows A) : Type 0 where
  pub width : new.high - new.low ≡ old.high - old.low
  pub rows : IsPermutation old.rows.items new.rows.items
  pub frame : KeepsFrame old.rows old.pivots new.rows new.pivots

-- rows of the piece above the gap left, and blank rows in their places joined it: its start, its piece and the pivots stay, and so does
-- how many rows there are
pub record IsWidened {A : Type 0} (old new : GappedRows A) : Type 0 where
  pub piece : new.piece ≡ old.piece
  pub low : new.low ≡ old.low
  pub high : old.high ≤ new.high
  pub pivots : new.pivots ≡ old.pivots
  pub len : length new.rows.items ≡ length old.rows.items
  pub capacity : vec_capacity new.rows ≡ vec_capacity old.rows

-- rows came into the gap at its start: its end, its piece and the pivots stay, and so does how many rows there are
pub record IsFilled {A : Type 0} (old new : GappedRows A) : Type 0 where
  pub piece : new.piece ≡ old.piece
  pub low : old.low ≤ new.low
  pub high : new.high ≡ old.high
  pub pivots : new.pivots ≡ old.pivots
  pub len : length new.rows.items ≡ length old.rows.items
  pub capacity : vec_capacity new.rows ≡ vec_capacity old.rows
