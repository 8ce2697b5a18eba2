-- What a column becomes where the rows between two places leave it, and those behind them close up.
use Rattle.std.specs.Prelude.{◌++◌, ℕ, ℤ, List, take, drop, map}
use Rattle.crack_kernel.specs.PivotList.{closed_up}

-- the rows that are left where those from one place on and before another leave
abbrev pub closed_up_rows : ℕ → ℕ → List (ℤ × List ℕ) → List (ℤ × List ℕ)
closed_up_rows from to rows = take from rows ++ drop to rows

-- the pivots then: a place inside the gap becomes its start, one behind it moves up
abbrev pub closed_up_pivots : ℕ → ℕ → List (ℤ × ℕ) → List (ℤ × ℕ)
closed_up_pivots from to ps = map (λ p. (p.0, closed_up from to p.1)) ps
