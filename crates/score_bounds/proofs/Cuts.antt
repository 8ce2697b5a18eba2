-- The tests of a range against its cuts.
use Rattle.std.proofs.Common.{◌≡◌, not, refl, sym, ℤ, ◌≤ℤ◌, arith}
use Rattle.std.proofs.lemmas.Int.{ints}
use Rattle.std.specs.Prelude.{int_lt}
use Rattle.score_bounds.specs.ScoreTexts.{greatest}
use Rattle.score_bounds.specs.RangesAndCuts.{is_under, is_over, is_below, cut_above, first_cut, second_cut}
use Rattle.score_bounds.specs.declared.ranges_and_cuts.Bound.{Bound}
use Rattle.score_bounds.specs.declared.ranges_and_cuts.Bound.TheVariants.{NegInf, Incl, Excl, PosInf}

pub is_below-cut_above : (limit score : ℤ) → score ≤ℤ greatest → is_below score (cut_above limit) ≡ not (int_lt limit score)
is_below-cut_above limit score within = grind (arith, ints)

pub is_under-first_cut : (min : Bound) (score : ℤ) → score ≤ℤ greatest → is_under min score ≡ is_below score (first_cut min)
is_under-first_cut NegInf score within = refl
is_under-first_cut (Incl limit) score within = refl
is_under-first_cut (Excl limit) score within = sym (is_below-cut_above limit score within)
is_under-first_cut PosInf score within = refl

pub is_over-second_cut : (max : Bound) (score : ℤ) → score ≤ℤ greatest → not (is_over max score) ≡ is_below score (second_cut max)
is_over-second_cut NegInf score within = refl
is_over-second_cut (Incl limit) score within = sym (is_below-cut_above limit score within)
is_over-second_cut (Excl limit) score within = grind (arith, ints)
is_over-second_cut PosInf score within = refl
