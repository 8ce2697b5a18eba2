-- A slice of rows that is being cracked from both ends (BlockQuicksort, Edelkamp and Weiß, ESA 2016).
use Rattle.std.specs.Prelude.{◌≡◌, ◌≤◌, ℕ, ℤ, List, length, take, drop}
use Rattle.std.specs.List.{AllWithin}
use Rattle.crack_kernel.specs.PartedRows.{IsBelow, IsFrom, Lists, ListsDown}
use Rattle.crack_kernel.specs.declared.crack_from_both_ends.Block.{Block}
use Rattle.crack_kernel.specs.declared.crack_from_both_ends.Ends.{Ends}

-- how many rows a block has at most (BLOCK in code)
abbrev pub block : ℕ
block = 64

-- the places of a block whose rows are still to be moved
abbrev pub places_left : Block → List ℕ
places_left b = drop b.next (take b.count b.places)

-- a block's places lie in order, and no more are used than it has room for
pub record IsInOrder (b : Block) : Type 0 where
  pub places : b.from ≤ b.to
  pub used : b.next ≤ b.count
  pub room : b.count ≤ block

-- no row of the block is still to be moved
abbrev pub IsDone : Block → Type 0
IsDone b = b.next ≡ b.count

-- the rows before the lower block are below the value, those behind the upper one are not, and each block lists
-- those of its rows that belong to the other side
pub record HasCrackedEnds (ends : Ends) (rows : List (ℤ × List ℕ)) : Type 0 where
  pub lower_order : IsInOrder ends.lower
  pub upper_order : IsInOrder ends.upper
  pub apart : ends.lower.to ≤ ends.upper.from
  pub within : ends.upper.to ≤ length rows
  pub below : AllWithin (IsBelow ends.value) rows 0 ends.lower.from
  pub lower : Lists (IsFrom ends.value) (IsBelow ends.value) rows (places_left ends.lower) ends.lower.from ends.lower.to
  pub upper : ListsDown (IsBelow ends.value) (IsFrom ends.value) rows (places_left ends.upper) ends.upper.from ends.upper.to
  pub behind : AllWithin (IsFrom ends.value) rows ends.upper.to (length rows)
