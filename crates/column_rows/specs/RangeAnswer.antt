-- The answers for a range of scores: where its rows stand.
use Rattle.std.specs.Prelude.{◌≡◌, ◌<◌, ◌≤◌, ◌++◌, ◌&&◌, ℕ, ℤ, List, length, count_by, slice_index_or, slice_range, IsPermutation}
use Rattle.std.specs.Bool.{MatchBool}
use Rattle.score_bounds.specs.declared.ranges_and_cuts.Range.{Range}
use Rattle.score_bounds.specs.declared.ranges_and_cuts.Cut.{Cut}
use Rattle.score_bounds.specs.RangesAndCuts.{first_cut, second_cut}
use Rattle.crack_kernel.specs.RowBag.{Test}
use Rattle.crack_kernel.specs.PivotList.{max_pivots}
use Rattle.column_rows.specs.Content.{ColumnState, content_count, has_score_in, NoneIn}
use Rattle.column_rows.specs.RangeCutsAsPivots.{is_before, values, cut_values, count_with_cuts, values_with_cuts, StandsAt, IsUncracked}

-- the cuts of a range
abbrev pub low_cut : Range → Cut
low_cut range = first_cut range.min

abbrev pub high_cut : Range → Cut
high_cut range = second_cut range.max

-- both cuts have their places, and no row with a score in the range waits
pub record IsSettled (c : ColumnState) (range : Range) (answer : ℕ × ℕ) : Type 0 where
  pub low : StandsAt (low_cut range) c.pivots (length c.rows) answer.0
  pub high : StandsAt (high_cut range) c.pivots (length c.rows) answer.1
  pub insertions : NoneIn range c.insertions
  pub deletions : NoneIn range c.deletions

-- the answer of a column that is ready for a range: the places of its cuts, or (0, 0) where the first is not below the second
abbrev pub IsAnswer : ColumnState → Range → ℕ × ℕ → Type 0
IsAnswer c range answer = MatchBool (is_before (low_cut range) (high_cut range)) (IsSettled c range answer) (answer ≡ (0, 0))

-- the column has an answer for a range as it stands
abbrev pub HasAnswer : ColumnState → Range → Type 0
HasAnswer c range = (answer : ℕ × ℕ) × IsAnswer c range answer

-- two places are the answer for some range
abbrev pub AnswersSome : ColumnState → ℕ × ℕ → Type 0
AnswersSome c places = (range : Range) × IsAnswer c range places

-- the rows between the two places are the content with scores in the range, as bags
pub record HoldsRange (c : ColumnState) (range : Range) (answer : ℕ × ℕ) : Type 0 where
  pub order : answer.0 ≤ answer.1
  pub within : answer.1 ≤ length c.rows
  pub rows : (p : Test) → count_by p (slice_range c.rows answer.0 answer.1) ≡ content_count (λ r. p r && has_score_in range r) c

-- how many pivots there are with the cuts of a range
abbrev pub pivots_with_cuts : Range → List (ℤ × ℕ) → ℕ
pivots_with_cuts range ps = count_with_cuts (low_cut range) (high_cut range) ps

-- each cut of the range is a pivot now, beside all pivots that were; where that makes more than max_pivots, the old ones are dropped
pub record AddsCuts (range : Range) (old new : List (ℤ × ℕ)) : Type 0 where
  pub kept : pivots_with_cuts range old ≤ max_pivots → IsPermutation (values_with_cuts (low_cut range) (high_cut range) (values old)) (values new)
  pub cleared : max_pivots < pivots_with_cuts range old → IsPermutation (cut_values (high_cut range) ++ cut_values (low_cut range)) (values new)

-- the rows outside the pieces that the cuts of a range crack stand where they stood
abbrev pub StandsStill : Range → ColumnState → ColumnState → Type 0
StandsStill range old new = (k : ℕ) (d : ℤ × List ℕ) → IsUncracked (low_cut range) old.pivots k → IsUncracked (high_cut range) old.pivots k
    → slice_index_or new.rows k d ≡ slice_index_or old.rows k d
