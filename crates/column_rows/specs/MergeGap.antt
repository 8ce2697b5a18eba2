-- A gap of blank rows that a merge carries over the pieces of a column.
use Rattle.std.specs.Prelude.{◌≡◌, ◌+◌, ◌-◌, ◌<◌, ◌≤◌, ◌<ℤ◌, ◌≤ℤ◌, ℕ, ℤ, pos, List, [], length, take, replicate, count_by, All, slice_index_or}
use Rattle.std.specs.List.{AllWithin}
use Rattle.crack_kernel.specs.RowBag.{Test, IsSubBag}
use Rattle.crack_kernel.specs.PartedRows.{IsBelow, IsFrom, IsParted}

-- the row that fills a gap
abbrev pub blank : ℤ × List ℕ
blank = (pos 0, [])

-- the element stands in the list at a place from low on and below high
abbrev pub StandsIn : {X : Type 0} → X → List X → ℕ → ℕ → X → Type 0
StandsIn x xs low high d = (k : ℕ) × (low ≤ k) × (k < high) × (slice_index_or xs k d ≡ x)

-- what stood from low on and below mid, and what stood from mid on and below high, changed places, each in some order
pub record ChangedPlaces {X : Type 0} (old new : List X) (low mid high : ℕ) : Type 0 where
  pub front : (k : ℕ) (d : X) → low ≤ k → k < low + (high - mid) → StandsIn (slice_index_or new k d) old mid high d
  pub back : (k : ℕ) (d : X) → low + (high - mid) ≤ k → k < high → StandsIn (slice_index_or new k d) old low mid d
  pub others : (k : ℕ) (d : X) → (low ≤ k → high ≤ k) → slice_index_or new k d ≡ slice_index_or old k d

-- a pivot of the value v at the place parts the rows that are not in the gap from low on and below high
abbrev pub PartsOutside : ℤ → ℕ → ℕ → ℕ → List (ℤ × List ℕ) → Type 0
PartsOutside v place low high rows = (k : ℕ) (d : ℤ × List ℕ) → k < length rows → (low ≤ k → high ≤ k)
    → (k < place → (slice_index_or rows k d).0 <ℤ v) × (place ≤ k → v ≤ℤ (slice_index_or rows k d).0)

-- rows with a gap of blank rows from low on and below high: the pivots before index i stand at its start or below, the others at its
-- end or above, and each parts the rows outside it
pub record HasGap (ps : List (ℤ × ℕ)) (rows : List (ℤ × List ℕ)) (i low high : ℕ) : Type 0 where
  pub order : low ≤ high
  pub within : high ≤ length rows
  pub index : i ≤ length ps
  pub below : (k : ℕ) (e : ℤ × ℕ) → k < i → (slice_index_or ps k e).1 ≤ low
  pub above : (k : ℕ) (e : ℤ × ℕ) → i ≤ k → k < length ps → high ≤ (slice_index_or ps k e).1
  pub rise : (k l : ℕ) (e : ℤ × ℕ) → k ≤ l → l < length ps → (slice_index_or ps k e).1 ≤ (slice_index_or ps l e).1
  pub inside : (k : ℕ) (e : ℤ × ℕ) → k < length ps → (slice_index_or ps k e).1 ≤ length rows
  pub parted : (k : ℕ) (e : ℤ × ℕ) → k < length ps → PartsOutside (slice_index_or ps k e).0 (slice_index_or ps k e).1 low high rows
  pub blanks : AllWithin (λ r. r ≡ blank) rows low high

-- the pivots from index i on stand at the place or above it
abbrev pub StandFrom : List (ℤ × ℕ) → ℕ → ℕ → Type 0
StandFrom ps i place = (k : ℕ) (e : ℤ × ℕ) → i ≤ k → k < length ps → place ≤ (slice_index_or ps k e).1

-- each pivot parts the rows
abbrev pub AllParted : List (ℤ × ℕ) → List (ℤ × List ℕ) → Type 0
AllParted ps rows = All (λ p. IsParted (IsBelow p.0) (IsFrom p.0) rows p.1) ps

-- rows were taken out of a list from an index on, where the others may stand in another order; those before stand as they did
pub record TakenFrom (from : ℕ) (old new : List (ℤ × List ℕ)) : Type 0 where
  pub within : from ≤ length new
  pub before : take from new ≡ take from old
  pub less : IsSubBag new old

-- rows that move between rows with so many blank ones and the two lists of pending rows leave the content: each test counts the same
abbrev pub KeepsContentBeside : (blanks : ℕ) (rows insertions deletions : List (ℤ × List ℕ)) (blanks' : ℕ) (rows' insertions' deletions' : List (ℤ × List ℕ)) → Type 0
KeepsContentBeside blanks rows insertions deletions blanks' rows' insertions' deletions' =
    (p : Test) → count_by p rows' + count_by p deletions + count_by p insertions' + count_by p (replicate blanks blank)
    ≡ count_by p rows + count_by p deletions' + count_by p insertions + count_by p (replicate blanks' blank)
