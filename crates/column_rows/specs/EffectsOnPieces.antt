-- The pivots that pieces show, and what calls leave of these and of the rows.
use Rattle.std.specs.Prelude.{◌≡◌, ◌≤◌, ℕ, ℤ, true, min, max, List, length, IsPermutation, slice_index_or, vec_capacity}
use Rattle.column_rows.specs.RangeCutsAsPivots.{IsApart}
use Rattle.column_rows.specs.ShownPivots.{IsAmong, shown_of}
use Rattle.column_rows.specs.declared.pending_lists.Pending.{Pending}
use Rattle.column_rows.specs.declared.cracked_with_shown_pivots.Pieces.{Pieces}

-- the greatest number of pivots that inner ones make: two less than the greatest of all, for the cuts of a range
abbrev pub most_with_inner : ℕ
most_with_inner = 4094

-- the pivots that are shown
abbrev pub shown : {A : Type 0} → Pieces A → List (ℤ × ℕ)
shown p = shown_of p.apart p.kept.list p.cracked.pivots.list

-- there is room for the two cuts of a range in the list of the shown pivots, if they have one
abbrev pub HasRoom : {A : Type 0} → Pieces A → Type 0
HasRoom p = p.apart ≡ true → 2 ≤ p.kept.spare

-- pieces were cracked at inner pivots: rows moved, new pivots stand beside the old ones, and those that are shown are the
-- same; room for the cuts of a range is left, if there was
pub record AreCracked {A : Type 0} (old new : Pieces A) : Type 0 where
  pub rows : IsPermutation old.cracked.rows.items new.cracked.rows.items
  pub capacity : vec_capacity new.cracked.rows ≡ vec_capacity old.cracked.rows
  pub among : IsAmong old.cracked.pivots.list new.cracked.pivots.list
  pub shown : shown new ≡ shown old
  pub spare : min 2 old.cracked.pivots.spare ≤ new.cracked.pivots.spare
  pub room : HasRoom old → HasRoom new
  pub few : length new.cracked.pivots.list ≤ max most_with_inner (length old.cracked.pivots.list)

-- the rows outside the piece of a value stay where they are
abbrev pub RestStays : {A : Type 0} → ℤ → Pieces A → Pieces A → Type 0
RestStays v old new = (k : ℕ) (d : ℤ × List ℕ) → IsApart v old.cracked.pivots.list k → slice_index_or new.cracked.rows.items k d ≡ slice_index_or old.cracked.rows.items k d

-- of what a column shows nothing changed but the room
pub record StaysAsShown {A : Type 0} (old new : Pieces A) (waited waits : Pending A) : Type 0 where
  pub rows : new.cracked.rows.items ≡ old.cracked.rows.items
  pub pivots : shown new ≡ shown old
  pub deletions : waits.deletions.items ≡ waited.deletions.items
  pub insertions : waits.insertions.items ≡ waited.insertions.items
