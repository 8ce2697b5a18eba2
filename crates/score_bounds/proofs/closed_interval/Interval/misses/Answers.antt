use Rattle.std.proofs.Common.{◌≡◌, ◌&&◌, ◌≤ℤ◌, ◌↔◌, Bool, not, true, false, sym, ◌∙◌, inl, inr, ◌<◌, ℤ, pos, negsuc, int_lt, arith, rules, w64, SFits, to_z-of_z}
use Rattle.std.specs.Int.{int_max, int_min}
use Rattle.std.proofs.lemmas.Int.{ints}
use Rattle.std.proofs.lemmas.Bool.{cases_Bool, false≢true}
use Rattle.score_bounds.specs.RangesAndCuts.{is_in}
use Rattle.score_bounds.specs.ScoreTexts.{IsScore}
use Rattle.score_bounds.proofs.closed_interval.Interval.misses.Goals as goal

-- where the one interval ends below the other, no score of the one is in the other
outside : (low high least greatest score : ℤ) → int_lt (int_min high greatest) (int_max low least) ≡ true → least ≤ℤ score → score ≤ℤ greatest → (not (int_lt score low) && not (int_lt high score)) ≡ false
outside low high least greatest score apart from to = grind (arith, ints)

-- else the greater one of their starts is in both
inside : (low high least greatest : ℤ) → int_lt (int_min high greatest) (int_max low least) ≡ false → (not (int_lt (int_max low least) low) && not (int_lt high (int_max low least))) ≡ true
inside low high least greatest meet = grind (arith, ints)

starts : (low least : ℤ) → least ≤ℤ int_max low least
starts low least = grind (arith, ints)

ends : (low high least greatest : ℤ) → int_lt (int_min high greatest) (int_max low least) ≡ false → int_max low least ≤ℤ greatest
ends low high least greatest meet = grind (arith, ints)

between : (least score greatest : ℤ) → SFits w64 least → SFits w64 greatest → least ≤ℤ score → score ≤ℤ greatest → IsScore score
between least (pos n) greatest low high from to = record { sfits = under greatest high to }
  where
    under : (m : ℤ) → SFits w64 m → pos n ≤ℤ m → n < 9223372036854775808
    under (pos m) fits le = let f = fits.sfits in grind (arith, ints)
    under (negsuc m) fits le = absurd (omega (arith, ints, le))
between (negsuc m) (negsuc n) greatest low high from to = record { sfits = let f = low.sfits in grind (arith, ints) }
between (pos m) (negsuc n) greatest low high from to = absurd (omega (arith, ints, from))

misses : (is_in : ℤ → Bool) (low high least greatest : ℤ) → SFits w64 least → SFits w64 greatest
    → ((score : ℤ) → IsScore score → (not (int_lt score low) && not (int_lt high score)) ≡ is_in score)
    → (int_lt (int_min high greatest) (int_max low least) ≡ true) ↔ ((score : ℤ) → least ≤ℤ score → score ≤ℤ greatest → is_in score ≡ false)
misses is_in low high least greatest from to same = (
  (λ apart score a b. sym (same score (between least score greatest from to a b)) ∙ outside low high least greatest score apart a b),
  (λ none. elim (cases_Bool (int_lt (int_min high greatest) (int_max low least))) [
    | inl apart ↦ apart
    | inr meet ↦
        let start = int_max low least in
        let a = starts low least in
        let b = ends low high least greatest meet in
        absurd (false≢true (sym (none start a b) ∙ sym (same start (between least start greatest from to a b)) ∙ inside low high least greatest meet))
  ]),
)

pub returns : goal.returns
returns c =
    let i = c.args.self.now in
    let low : SFits w64 i.low = search rules in
    let high : SFits w64 i.high = search rules in
    let start : SFits w64 c.max.result = record { sfits = c.max.type_inv } in
    let end : SFits w64 c.min.result = record { sfits = c.min.type_inv } in
    let max : c.max.result ≡ int_max i.low c.args.least = rw (to_z-of_z low, to_z-of_z c.ranges.least) at c.max.ensures.value in
    let min : c.min.result ≡ int_min i.high c.args.greatest = rw (to_z-of_z high, to_z-of_z c.ranges.greatest) at c.min.ensures.value in
    rw (to_z-of_z start, to_z-of_z end, max, min) (misses (λ score. is_in i.range score) i.low i.high c.args.least c.args.greatest c.ranges.least c.ranges.greatest i.same)
