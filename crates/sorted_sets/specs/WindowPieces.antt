-- Windows of a listing, and the pieces of a column that they touch.
use Rattle.std.specs.Prelude.{◌≡◌, min, ◌+◌, ◌<◌, ◌≤◌, ◌⊎◌, ℕ, ℤ, false, List, ◌++◌, length, All, Any, IsPermutation}
use Rattle.std.specs.Ordering.{is_lt}
use Rattle.zset_core.specs.SortedSet.{Pair, pair_cmp}

-- none of the first pairs stands behind one of the others in a listing
abbrev pub ComesBefore : List Pair → List Pair → Type 0
ComesBefore xs ys = All (λ x. All (λ y. is_lt (pair_cmp y x) ≡ false) ys) xs

-- in no order, the part has those of all pairs that stand at the ranks from start on and before end in a listing
pub record IsPart (all : List Pair) (start end : ℕ) (part : List Pair) : Type 0 where
  pub front : List Pair
  pub back : List Pair
  pub together : IsPermutation all (front ++ part ++ back)
  pub first : length front ≡ start
  pub last : length front + length part ≡ end
  pub front_part : ComesBefore front part
  pub front_back : ComesBefore front back
  pub part_back : ComesBefore part back

-- in no order, the part has the least of all pairs: count of them, or all where they are fewer
pub record HasLeast (all : List Pair) (count : ℕ) (part : List Pair) : Type 0 where
  pub others : List Pair
  pub together : IsPermutation all (part ++ others)
  pub many : length part ≡ min count (length all)
  pub part_others : ComesBefore part others

-- the greatest place of a pivot that is at most first, or from where no such place is greater
pub record IsPieceStart (pivots : List (ℤ × ℕ)) (from first place : ℕ) : Type 0 where
  pub low : from ≤ place
  pub high : place ≤ first
  pub stands : (place ≡ from) ⊎ Any (λ p. p.1 ≡ place) pivots
  pub nearest : All (λ p. (p.1 ≤ place) ⊎ (first < p.1)) pivots

-- the least place of a pivot that is at least last, or to where no such place is less
pub record IsPieceEnd (pivots : List (ℤ × ℕ)) (to last place : ℕ) : Type 0 where
  pub low : last ≤ place
  pub high : place ≤ to
  pub stands : (place ≡ to) ⊎ Any (λ p. p.1 ≡ place) pivots
  pub nearest : All (λ p. (p.1 < last) ⊎ (place ≤ p.1)) pivots
