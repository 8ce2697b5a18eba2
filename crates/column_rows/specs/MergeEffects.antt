-- What a merge of pending rows keeps of a column.
use Rattle.std.specs.Prelude.{◌≡◌, ◌+◌, ◌≤◌, ℕ, ℤ, true, false, List, [], length, max, min, vec_capacity, vec_len}
use Rattle.std.specs.List.{AllWithin}
use Rattle.std.specs.declared.vec.Vec.{Vec}
use Rattle.crack_kernel.specs.RowBag.{IsSubBag}
use Rattle.crack_kernel.specs.PivotList.{PivotList}
use Rattle.score_bounds.specs.declared.ranges_and_cuts.Range.{Range}
use Rattle.column_rows.specs.Content.{KeepsContent, has_score_in, max_pending}
use Rattle.column_rows.specs.RangeCutsAsPivots.{values}
use Rattle.column_rows.specs.declared.cracked_rows.Cracked.{Cracked}
use Rattle.column_rows.specs.declared.pending_lists.Pending.{Pending}

-- rows move among the pieces: the pivots keep their values, and pivots and rows their room
pub record KeepsFrame {A : Type 0} (old_rows : Vec (ℤ × List ℕ) A) (old : PivotList) (new_rows : Vec (ℤ × List ℕ) A) (new : PivotList) : Type 0 where
  pub values : values new.list ≡ values old.list
  pub spare : new.spare ≡ old.spare
  pub capacity : vec_capacity new_rows ≡ vec_capacity old_rows

-- pending rows come in and go out, and none begins to wait: the content stays, and the pending deletions are among the rows
pub record Merges {A : Type 0} (old new : Cracked A) (waited waits : Pending A) : Type 0 where
  pub content : KeepsContent old.rows.items waited.insertions.items waited.deletions.items new.rows.items waits.insertions.items waits.deletions.items
  pub part : IsSubBag waits.deletions.items new.rows.items
  pub less_deletions : IsSubBag waits.deletions.items waited.deletions.items
  pub less_insertions : IsSubBag waits.insertions.items waited.insertions.items

-- nothing changed but the room
pub record StaysAsItWas {A : Type 0} (old new : Cracked A) (waited waits : Pending A) : Type 0 where
  pub rows : new.rows.items ≡ old.rows.items
  pub pivots : new.pivots.list ≡ old.pivots.list
  pub deletions : waits.deletions.items ≡ waited.deletions.items
  pub insertions : waits.insertions.items ≡ waited.insertions.items

-- the rows of a list that have scores in the range are those from an index on
pub record HasLast (range : Range) (rows : List (ℤ × List ℕ)) (from : ℕ) : Type 0 where
  pub within : from ≤ length rows
  pub outside : AllWithin (λ r. has_score_in range r ≡ false) rows 0 from
  pub inside : AllWithin (λ r. has_score_in range r ≡ true) rows from (length rows)

-- the first rows of a list, as many, are known to have no score in the range
pub record ArePassed (range : Range) (rows : List (ℤ × List ℕ)) (count : ℕ) : Type 0 where
  pub within : count ≤ length rows
  pub outside : AllWithin (λ r. has_score_in range r ≡ false) rows 0 count

-- how many rows wait in the longer list
abbrev pub most_waiting : {A : Type 0} → Pending A → ℕ
most_waiting pending = max (length pending.deletions.items) (length pending.insertions.items)

-- no row waits
abbrev pub NoneWaits : {A : Type 0} → Pending A → Type 0
NoneWaits pending = (pending.deletions.items ≡ []) × (pending.insertions.items ≡ [])

-- so many more rows find room in either list, and no list gets too long by them
abbrev pub HasRoomFor : {A : Type 0} → ℕ → Pending A → Type 0
HasRoomFor n pending = (vec_len pending.deletions + n ≤ min (vec_capacity pending.deletions) max_pending)
    × (vec_len pending.insertions + n ≤ min (vec_capacity pending.insertions) max_pending)
