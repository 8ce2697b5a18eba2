-- Marks of the rows in a list of pending rows.
use Rattle.std.specs.Prelude.{◌≡◌, ◌-◌, ◌/◌, ◌%◌, ◌^◌, ◌==◌, ◌&&◌, ℕ, ℤ, Bool, not, List, count_by, slice_index_or}
use Rattle.std.specs.Int.{bit_at}
use Rattle.column_rows.specs.RowHash.{hash_of}

-- one of the marks, in words of 64 bits, is set; where there are no marks, each counts as set
abbrev pub is_set : List ℕ → ℕ → Bool
is_set words mark = bit_at (slice_index_or words (mark / 64) (2 ^ 64 - 1)) (mark % 64) == 1

-- both marks of a hash are set: that of its highest 16 bits and that of the next 16
abbrev pub is_marked : List ℕ → ℕ → Bool
is_marked words hash = is_set words (hash / 2 ^ 48) && is_set words (hash / 2 ^ 32 % 2 ^ 16)

-- no row has a hash that is not marked
abbrev pub Covers : List ℕ → List (ℤ × List ℕ) → Type 0
Covers words rows = count_by (λ r. not (is_marked words (hash_of r))) rows ≡ 0
