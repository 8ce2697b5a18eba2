-- Where a row stands.
use Rattle.std.specs.Prelude.{◌≡◌, ◌<◌, ◌≤◌, ℕ, ℤ, List}
use Rattle.std.specs.List.{HoldsAt}

-- the row stands at a place from low on and below high
abbrev pub StandsWithin : ℤ × List ℕ → List (ℤ × List ℕ) → ℕ → ℕ → Type 0
StandsWithin row rows low high = (k : ℕ) × (low ≤ k) × (k < high) × HoldsAt (λ r. r ≡ row) rows k
