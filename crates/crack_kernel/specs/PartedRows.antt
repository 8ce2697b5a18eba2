-- How a list of rows is parted by a score (Database Cracking, Idreos, Kersten and Manegold, CIDR 2007).
use Rattle.std.specs.Prelude.{◌≡◌, ◌≤◌, ◌<◌, ◌+◌, ◌<ℤ◌, ◌≤ℤ◌, ℕ, ℤ, List, [], ◌∷◌, length, take, drop, slice_range, IsPermutation}
use Rattle.std.specs.List.{AllWithin, HoldsAt}

-- the row's score is below v
abbrev pub IsBelow : ℤ → ℤ × List ℕ → Type 0
IsBelow v r = r.0 <ℤ v

-- the row's score is v or above
abbrev pub IsFrom : ℤ → ℤ × List ℕ → Type 0
IsFrom v r = v ≤ℤ r.0

-- of the rows from one place on and before another those at these places, which rise, have P, and the others have Q
abbrev pub Lists : (P Q : ℤ × List ℕ → Type 0) → List (ℤ × List ℕ) → List ℕ → ℕ → ℕ → Type 0
Lists P Q rows [] from to = AllWithin Q rows from to
Lists P Q rows (p ∷ places) from to = (from ≤ p) × (p < to) × AllWithin Q rows from p × HoldsAt P rows p × Lists P Q rows places (p + 1) to

-- the same of places that fall
abbrev pub ListsDown : (P Q : ℤ × List ℕ → Type 0) → List (ℤ × List ℕ) → List ℕ → ℕ → ℕ → Type 0
ListsDown P Q rows [] from to = AllWithin Q rows from to
ListsDown P Q rows (p ∷ places) from to = (from ≤ p) × (p < to) × AllWithin Q rows (p + 1) to × HoldsAt P rows p × ListsDown P Q rows places from p

-- each element before the place has P, and each from the place on has Q
pub record IsParted {X : Type 0} (P Q : X → Type 0) (xs : List X) (place : ℕ) : Type 0 where
  pub within : place ≤ length xs
  pub before : AllWithin P xs 0 place
  pub behind : AllWithin Q xs place (length xs)

-- the elements from one place on and before another are permuted, and the others stand where they stood
pub record ChangesWithin {X : Type 0} (from to : ℕ) (old new : List X) : Type 0 where
  pub front : take from new ≡ take from old
  pub back : drop to new ≡ drop to old
  pub inside : IsPermutation (slice_range old from to) (slice_range new from to)
