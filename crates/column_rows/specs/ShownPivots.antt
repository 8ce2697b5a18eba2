-- The pivots that a column shows, beside its inner pivots: these part pieces that no cut of a range parts, so that a search in
-- a piece reads few rows.
use Rattle.std.specs.Prelude.{◌≡◌, ◌==◌, ◌&&◌, ℕ, ℤ, Bool, true, List, Contains, if◌then◌else◌}
use Rattle.std.specs.List.{list_any}
use Rattle.std.specs.Ordering.{int_eq}
use Rattle.score_bounds.specs.declared.ranges_and_cuts.Cut.{Cut}
use Rattle.score_bounds.specs.declared.ranges_and_cuts.Cut.TheVariants.{Start, At, End}

-- each of the first pivots is one of the others, at the same place
abbrev pub IsAmong : List (ℤ × ℕ) → List (ℤ × ℕ) → Type 0
IsAmong ps qs = (p : ℤ × ℕ) → Contains ps p → Contains qs p

-- two pivots have the same value and the same place
abbrev pub same_pivot : ℤ × ℕ → ℤ × ℕ → Bool
same_pivot p q = int_eq p.0 q.0 && (p.1 == q.1)

-- the same as IsAmong, by a test that finds each of the first pivots among the others
abbrev pub AreFound : List (ℤ × ℕ) → List (ℤ × ℕ) → Type 0
AreFound ps qs = (p : ℤ × ℕ) → Contains ps p → list_any (same_pivot p) qs ≡ true

-- the pivots that are shown: those of a list of their own, or all where they have none
abbrev pub shown_of : Bool → List (ℤ × ℕ) → List (ℤ × ℕ) → List (ℤ × ℕ)
shown_of apart kept all = if apart then kept else all

-- a cut at a number is one of the values
abbrev pub HasCut : Cut → List ℤ → Type 0
HasCut Start vs = Unit {0}
HasCut (At v) vs = Contains vs v
HasCut End vs = Unit {0}
