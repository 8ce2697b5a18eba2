-- What a column holds.
use Rattle.std.specs.Prelude.{◌≡◌, ◌<◌, ◌≤ℤ◌, ◌+◌, ◌-◌, ◌&&◌, not, true, false, ℕ, max, ℤ, List, ◌∷◌, length, All, Contains, IsPermutation, count_by}
use Rattle.score_bounds.specs.declared.ranges_and_cuts.Range.{Range}
use Rattle.score_bounds.specs.RangesAndCuts.{is_in}
use Rattle.score_bounds.specs.ScoreTexts.{greatest}
use Rattle.crack_kernel.specs.RowBag.{Test}

-- a row's score is in the range
abbrev pub has_score_in : Range → Test
has_score_in range r = is_in range r.0

-- no row has a score in the range
abbrev pub NoneIn : Range → List (ℤ × List ℕ) → Type 0
NoneIn range rows = All (λ r. has_score_in range r ≡ false) rows

-- the rows with scores outside the range are the same, as bags
abbrev pub SameOutside : Range → List (ℤ × List ℕ) → List (ℤ × List ℕ) → Type 0
SameOutside range old new = (p : Test) → count_by (λ r. p r && not (has_score_in range r)) new ≡ count_by (λ r. p r && not (has_score_in range r)) old

-- the scores of the rows are numbers of 64 bits
abbrev pub IsScored : List (ℤ × List ℕ) → Type 0
IsScored rows = All (λ r. r.0 ≤ℤ greatest) rows

-- rows that move between the rows and the two lists of pending rows leave the content: each test counts the same
abbrev pub KeepsContent : (rows insertions deletions rows' insertions' deletions' : List (ℤ × List ℕ)) → Type 0
KeepsContent rows insertions deletions rows' insertions' deletions' =
    (p : Test) → count_by p rows' + count_by p deletions + count_by p insertions' ≡ count_by p rows + count_by p deletions' + count_by p insertions

-- what contracts see of a column: its rows, its pivots, the rows that wait as insertions and as deletions, and for how
-- many more of each there is room
pub record ColumnState : Type 0 where
  pub rows : List (ℤ × List ℕ)
  pub pivots : List (ℤ × ℕ)
  pub insertions : List (ℤ × List ℕ)
  pub deletions : List (ℤ × List ℕ)
  pub insert_spare : ℕ
  pub delete_spare : ℕ

-- how many rows of the content pass a test: what stands in the column and what waits to come in count, what waits to be deleted does not
abbrev pub content_count : Test → ColumnState → ℕ
content_count p c = count_by p c.rows + count_by p c.insertions - count_by p c.deletions

-- two columns hold the same rows, as bags
abbrev pub SameContent : ColumnState → ColumnState → Type 0
SameContent old new = (p : Test) → content_count p new ≡ content_count p old

-- the column holds this bag of rows
abbrev pub Holds : ColumnState → List (ℤ × List ℕ) → Type 0
Holds c bag = (p : Test) → content_count p c ≡ count_by p bag

-- nothing of a column changed but its spare room
pub record IsUnchanged (old new : ColumnState) : Type 0 where
  pub rows : new.rows ≡ old.rows
  pub pivots : new.pivots ≡ old.pivots
  pub insertions : new.insertions ≡ old.insertions
  pub deletions : new.deletions ≡ old.deletions

-- the content has this row
abbrev pub HasRow : ColumnState → ℤ × List ℕ → Type 0
HasRow c row = (p : Test) → p row ≡ true → 0 < content_count p c

-- a row begins to wait in one list, unless it waits in the other: then it waits in neither
pub record Pends (row : ℤ × List ℕ) (old new other_old other_new : List (ℤ × List ℕ)) : Type 0 where
  pub added : ¬ Contains other_old row → IsPermutation (row ∷ old) new × (other_new ≡ other_old)
  pub withdrawn : Contains other_old row → IsPermutation other_old (row ∷ other_new) × (new ≡ old)

-- the greatest number of rows in each list of pending rows (MAX_PENDING in code)
abbrev pub max_pending : ℕ
max_pending = 2048

-- how many rows the longer of the two lists of pending rows has
abbrev pub most_pending : ColumnState → ℕ
most_pending c = max (length c.deletions) (length c.insertions)
