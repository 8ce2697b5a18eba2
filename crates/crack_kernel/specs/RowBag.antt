-- Rows as bags. A row is seen as the pair of its score and its member's bytes.
use Rattle.std.specs.Prelude.{◌≡◌, ◌≤◌, ℕ, ℤ, Bool, List, count_by}

-- a test of rows
abbrev pub Test : Type 0
Test = ℤ × List ℕ → Bool

-- two lists hold the same rows, in any order: each test counts as many in the one as in the other
abbrev pub SameBag : List (ℤ × List ℕ) → List (ℤ × List ℕ) → Type 0
SameBag xs ys = (p : Test) → count_by p xs ≡ count_by p ys

-- the rows of xs are among those of ys, each as often at least: no test counts more of them
abbrev pub IsSubBag : List (ℤ × List ℕ) → List (ℤ × List ℕ) → Type 0
IsSubBag xs ys = (p : Test) → count_by p xs ≤ count_by p ys
