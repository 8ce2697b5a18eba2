-- Between which scores the rows of a list lie.
use Rattle.std.specs.Prelude.{◌≡◌, ◌||◌, ℕ, ℤ, Bool, List, count_by, int_lt}
use Rattle.column_rows.specs.declared.score_span.ScoreSpan.{ScoreSpan}

-- a score is below the least or above the greatest of a span
abbrev pub is_outside : ScoreSpan → ℤ → Bool
is_outside span score = int_lt score span.least || int_lt span.greatest score

-- no row has a score outside the span
abbrev pub Spans : ScoreSpan → List (ℤ × List ℕ) → Type 0
Spans span rows = count_by (λ r. is_outside span r.0) rows ≡ 0
