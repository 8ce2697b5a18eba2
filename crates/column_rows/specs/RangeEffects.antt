-- What the calls that have to do with ranges do to a column.
use Rattle.std.specs.Prelude.{◌≡◌, ◌≤◌, ◌&&◌, ℕ, not, true, false, IsPermutation}
use Rattle.score_bounds.specs.declared.ranges_and_cuts.Range.{Range}
use Rattle.crack_kernel.specs.PivotList.{max_pivots}
use Rattle.crack_kernel.specs.RowBag.{SameBag, Test}
use Rattle.column_rows.specs.ClosedUp.{closed_up_pivots, closed_up_rows}
use Rattle.column_rows.specs.Content.{ColumnState, content_count, has_score_in, IsUnchanged, NoneIn, SameOutside}
use Rattle.column_rows.specs.RangeCutsAsPivots.{is_before}
use Rattle.column_rows.specs.RangeAnswer.{AddsCuts, HasAnswer, IsAnswer, StandsStill, low_cut, high_cut, pivots_with_cuts}

-- a range was asked for: what waits outside it goes on waiting, and its cuts are pivots beside those that were, or alone where
-- there would be too many; a range that is empty by its cuts changes nothing
pub record Selects (range : Range) (old new : ColumnState) : Type 0 where
  pub waiting_insertions : SameOutside range old.insertions new.insertions
  pub waiting_deletions : SameOutside range old.deletions new.deletions
  pub pivots : is_before (low_cut range) (high_cut range) ≡ true → AddsCuts range old.pivots new.pivots
  pub empty : is_before (low_cut range) (high_cut range) ≡ false → IsUnchanged old new
  -- with nothing to merge and no pivot dropped, a row moves only within a piece that is cracked
  pub still : pivots_with_cuts range old.pivots ≤ max_pivots → NoneIn range old.insertions → NoneIn range old.deletions → StandsStill range old new

-- the rows of a range leave a column that has its answer for it: those that stay are the bag that closing up would leave, in what
-- order is not told, the pivots close up, and what waits goes on waiting
pub record TakesOut (range : Range) (old new : ColumnState) : Type 0 where
  pub ready : HasAnswer old range
  pub rows : (answer : ℕ × ℕ) → IsAnswer old range answer → SameBag new.rows (closed_up_rows answer.0 answer.1 old.rows)
  pub pivots : (answer : ℕ × ℕ) → IsAnswer old range answer → new.pivots ≡ closed_up_pivots answer.0 answer.1 old.pivots
  pub insertions : new.insertions ≡ old.insertions
  pub deletions : new.deletions ≡ old.deletions
  pub spare_insertions : new.insert_spare ≡ old.insert_spare
  pub spare_deletions : new.delete_spare ≡ old.delete_spare

-- the rows of a range left a column that answered it by places from one place on: the content is what it was, but for the rows with
-- scores in the range, of which none is left, and the range is answered by no row at that place
pub record Removes (range : Range) (from : ℕ) (old new : ColumnState) : Type 0 where
  pub content : (p : Test) → content_count p new ≡ content_count (λ r. p r && not (has_score_in range r)) old
  pub none_left : (p : Test) → content_count (λ r. p r && has_score_in range r) new ≡ 0
  pub answer : IsAnswer new range (from, from)
  pub takes_out : TakesOut range old new

-- pieces are cracked further: rows move between the pivots that are shown, and all else is what it was
pub record Narrows (old new : ColumnState) : Type 0 where
  pub rows : IsPermutation old.rows new.rows
  pub pivots : new.pivots ≡ old.pivots
  pub insertions : new.insertions ≡ old.insertions
  pub deletions : new.deletions ≡ old.deletions
  pub spare_insertions : new.insert_spare ≡ old.insert_spare
  pub spare_deletions : new.delete_spare ≡ old.delete_spare
