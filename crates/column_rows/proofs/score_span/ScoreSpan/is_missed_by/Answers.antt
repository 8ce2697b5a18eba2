use Rattle.std.proofs.Common.{◌≡◌, ◌||◌, ◌≤ℤ◌, ◌↔◌, ℤ, false, int_lt, IsTrue, arith, rules, w64, SFits, to_z-of_z}
use Rattle.std.proofs.lemmas.Int.{ints}
use Rattle.score_bounds.specs.RangesAndCuts.{is_in}
use Rattle.column_rows.proofs.score_span.ScoreSpan.is_missed_by.Goals as goal

not_below : (least greatest s : ℤ) → (int_lt s least || int_lt greatest s) ≡ false → least ≤ℤ s
not_below least greatest s inside = grind (arith, ints)

not_above : (least greatest s : ℤ) → (int_lt s least || int_lt greatest s) ≡ false → s ≤ℤ greatest
not_above least greatest s inside = grind (arith, ints)

between : (least greatest s : ℤ) → least ≤ℤ s → s ≤ℤ greatest → (int_lt s least || int_lt greatest s) ≡ false
between least greatest s low high = grind (arith, ints)

pub returns : goal.returns
returns c =
    let span = c.args.self.now in
    let low : SFits w64 span.least = search rules in
    let high : SFits w64 span.greatest = search rules in
    let told : IsTrue c.misses.result ↔ ((s : ℤ) → span.least ≤ℤ s → s ≤ℤ span.greatest → is_in c.args.interval.now.range s ≡ false) = rw (to_z-of_z low, to_z-of_z high) at c.misses.ensures in (
      (λ missed s inside. told.0 missed s (not_below span.least span.greatest s inside) (not_above span.least span.greatest s inside)),
      (λ none. told.1 (λ s a b. none s (between span.least span.greatest s a b))),
    )
