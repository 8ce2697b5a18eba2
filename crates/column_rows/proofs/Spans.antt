-- The span of the scores of a list's rows.
use Rattle.std.proofs.Common.{◌≡◌, ℕ, ℤ, Bool, false, List, [], ◌∷◌, ◌++◌, get_or, arith}
use Rattle.score_bounds.specs.RangesAndCuts.{is_in}
use Rattle.score_bounds.specs.declared.ranges_and_cuts.Range.{Range}
use Rattle.column_rows.specs.Content.{NoneIn}
use Rattle.column_rows.specs.declared.score_span.ScoreSpan.{ScoreSpan}
use Rattle.column_rows.specs.ScoreSpan.{is_outside, Spans}
use Rattle.column_rows.proofs.Counts.{count_none, none_counted, count_push, count_zero}

-- a row behind the others, in a span that is as wide at least
pub spans_pushed : (old new : ScoreSpan) (rows : List (ℤ × List ℕ)) (x : ℤ × List ℕ) → is_outside new x.0 ≡ false
    → ((s : ℤ) → is_outside old s ≡ false → is_outside new s ≡ false) → Spans old rows → Spans new (rows ++ x ∷ [])
spans_pushed old new rows x inside kept spans =
    let outside : ℤ × List ℕ → Bool = λ r. is_outside new r.0 in
    let none = count_none outside rows (λ k d h. kept (get_or rows k d).0 (none_counted (λ r. is_outside old r.0) rows spans k d h)) in
    let push = count_push outside rows x in
    let zero = count_zero outside x inside in
    omega (arith, push, zero, none)

-- where a range has no score of the span, no row has a score in it
pub none_in : (span : ScoreSpan) (range : Range) (rows : List (ℤ × List ℕ)) → ((s : ℤ) → is_outside span s ≡ false → is_in range s ≡ false) → Spans span rows → NoneIn range rows
none_in span range rows missed spans k d h = missed (get_or rows k d).0 (none_counted (λ r. is_outside span r.0) rows spans k d h)
