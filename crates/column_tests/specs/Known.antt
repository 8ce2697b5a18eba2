-- Rows that are known to be in a column.
use Rattle.std.specs.Prelude.{◌≡◌, ◌≤◌, ◌+◌, ℤ, ℕ, List, count_by}
use Rattle.crack_kernel.specs.RowBag.{Test}
use Rattle.ripple_column.specs.Content.{ColumnState, content_count}

-- the column holds these rows, and may hold others
abbrev pub HoldsAll : ColumnState → List (ℤ × List ℕ) → Type 0
HoldsAll c known = (p : Test) → count_by p known ≤ content_count p c

-- the same rows come to the column and to the known ones, or leave both: beside these the column holds what it held, so
-- just these as long as it holds no others
abbrev pub KeepsOthers : (old new : ColumnState) (known known' : List (ℤ × List ℕ)) → Type 0
KeepsOthers old new known known' = (p : Test) → content_count p new + count_by p known ≡ content_count p old + count_by p known'
