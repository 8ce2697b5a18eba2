-- Pivots: pairs of a value and a place in the rows. The rows before a pivot's place have scores below
-- its value, the others have not (Database Cracking, Idreos, Kersten and Manegold, CIDR 2007).
use Rattle.std.specs.Prelude.{◌≡◌, ◌≢◌, ◌+◌, ◌-◌, ◌<◌, ◌≤◌, ◌<ℤ◌, ◌≤ℤ◌, ℕ, ℤ, pos, Bool, List, ◌++◌, length, take, drop, map, All, Contains, slice_index_or, nat_le, nat_lt, if◌then◌else◌, zero, suc}
use Rattle.std.specs.List.{AllWithin}
use Rattle.crack_kernel.specs.PartedRows.{IsBelow, IsFrom, IsParted}

-- what contracts see of the pivots: their values and places in order, and for how many more there is room
pub record PivotList : Type 0 where
  pub list : List (ℤ × ℕ)
  pub spare : ℕ

-- the values of the pivots rise strictly
abbrev pub IsRising : List (ℤ × ℕ) → Type 0
IsRising ps = (i j : ℕ) (d : ℤ × ℕ) → i < j → j < length ps → (slice_index_or ps i d).0 <ℤ (slice_index_or ps j d).0

-- a pivot of a greater value has no lower place, as the pivot law implies
abbrev pub ArePlacedInOrder : List (ℤ × ℕ) → Type 0
ArePlacedInOrder ps = (p q : ℤ × ℕ) → Contains ps p → Contains ps q → p.0 <ℤ q.0 → p.1 ≤ q.1

-- the greatest number of pivots (MAX_PIVOTS in code)
abbrev pub max_pivots : ℕ
max_pivots = 4096

-- the pivot law: each pivot parts the rows at its place, the values rise strictly, and there are at most max_pivots
pub record ObeysPivots (pivots : List (ℤ × ℕ)) (rows : List (ℤ × List ℕ)) : Type 0 where
  pub parted : All (λ p. IsParted (IsBelow p.0) (IsFrom p.0) rows p.1) pivots
  pub rising : IsRising pivots
  pub few : length pivots ≤ max_pivots

-- no pivot has this value
abbrev pub IsNewValue : ℤ → List (ℤ × ℕ) → Type 0
IsNewValue v ps = All (λ p. p.0 ≢ v) ps

-- the first n pivots have values up to v, the others have values above v
pub record RisesPast (v : ℤ) (ps : List (ℤ × ℕ)) (n : ℕ) : Type 0 where
  pub within : n ≤ length ps
  pub upto : AllWithin (λ p. p.0 ≤ℤ v) ps 0 n
  pub above : AllWithin (λ p. v <ℤ p.0) ps n (length ps)

-- where the piece below the pivot of index n begins: at the place of the pivot before it, the first piece at 0
abbrev pub piece_start : List (ℤ × ℕ) → ℕ → ℕ
piece_start ps zero = 0
piece_start ps (suc n) = (slice_index_or ps n (pos 0, 0)).1

-- where that piece ends: at the pivot's place, and behind the last pivot at the number of rows
abbrev pub piece_end : List (ℤ × ℕ) → ℕ → ℕ → ℕ
piece_end ps n rows_len = (slice_index_or ps n (pos 0, rows_len)).1

-- the piece of a value, in which each row of that score stands: it lies below the first pivot with a value above it
pub record IsPieceOf (v : ℤ) (ps : List (ℤ × ℕ)) (rows_len : ℕ) (piece : ℕ × ℕ) : Type 0 where
  pub index : ℕ
  pub past : RisesPast v ps index
  pub start : piece.0 ≡ piece_start ps index
  pub end : piece.1 ≡ piece_end ps index rows_len

-- the pivot with its place one up or one down
abbrev pub shifted_pivot : Bool → ℤ × ℕ → ℤ × ℕ
shifted_pivot up p = (p.0, (if up then p.1 + 1 else p.1 - 1))

-- the pivots with all places from index i on moved by one
abbrev pub shifted : ℕ → Bool → List (ℤ × ℕ) → List (ℤ × ℕ)
shifted i up ps = take i ps ++ map (shifted_pivot up) (drop i ps)

-- a place once the rows from one place on and before another are gone and those behind have closed up
abbrev pub closed_up : ℕ → ℕ → ℕ → ℕ
closed_up from to place = if nat_le place from then place else if nat_lt place to then from else place - (to - from)
