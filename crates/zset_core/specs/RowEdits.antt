-- The rows by which one set becomes another.
use Rattle.std.specs.Prelude.{◌≡◌, ◌≤◌, ◌+◌, ℕ, List, length, count_by}
use Rattle.crack_kernel.specs.RowBag.{Test}
use Rattle.ripple_column.specs.Content.{ColumnState, content_count}
use Rattle.zset_core.specs.SortedSet.{Members, Pair, pairs}
use Rattle.zset_core.specs.declared.row_edits.Edits.{Edits}

-- the pairs of the old set, with those that come and without those that leave, are the pairs of the new one, as bags
abbrev pub Turns : (old new : Members) (coming leaving : List Pair) → Type 0
Turns old new coming leaving = (p : Test) → count_by p (pairs new) + count_by p leaving ≡ count_by p (pairs old) + count_by p coming

-- as one set becomes another, the edits that were noted become those with at most this number more of each kind
pub record Notes {A : Type 0} (most : ℕ) (old new : Members) (before after : Edits A) : Type 0 where
  pub bags : (p : Test) → count_by p (pairs new) + count_by p after.leaving.items + count_by p before.coming.items
      ≡ count_by p (pairs old) + count_by p after.coming.items + count_by p before.leaving.items
  pub coming : length after.coming.items ≤ length before.coming.items + most
  pub leaving : length after.leaving.items ≤ length before.leaving.items + most

-- no command makes more edits of one kind than a request has words
abbrev pub most_edits : ℕ
most_edits = 1027

-- the content of a column, with the rows that come and without those that leave, is the bag of a set's pairs
abbrev pub TurnsInto : ColumnState → Members → (coming leaving : List Pair) → Type 0
TurnsInto c new coming leaving = (p : Test) → count_by p (pairs new) + count_by p leaving ≡ content_count p c + count_by p coming
