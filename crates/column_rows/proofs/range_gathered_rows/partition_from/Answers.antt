use Rattle.std.proofs.Common.{◌≡◌, ◌-◌, length, true, false, ap, ◌∙◌, sym, arith}
use Rattle.std.proofs.lemmas.List.Sorted.{IsPermutation-trans, IsPermutation-swap}
use Rattle.std.proofs.lemmas.List.Edits.{length-swap}
use Rattle.std.proofs.lemmas.List.Elements.{AllWithin-more}
use Rattle.score_bounds.specs.declared.ranges_and_cuts.Range.{Range}
use Rattle.crack_kernel.specs.RowBag.{Test}
use Rattle.crack_kernel.proofs.PartMoves.{AllWithin-swapped, holds_read}
use Rattle.column_rows.specs.Content.{has_score_in}
use Rattle.column_rows.proofs.range_gathered_rows.partition_from.Goals as goal

pub loop-others-preserved-then-is_within : goal.loop-others-preserved-then-is_within
loop-others-preserved-then-is_within g c =
    let v = c.loop-others.invariant in
    let s = c.swap.ensures in
    let rows = c.loop-others.list.items in
    let new = c.swap.new.self.items in
    let i = c.loop-others.others in
    let last = c.loop-others.end - 1 in
    let test : Test = has_score_in c.args.range.now in
    let asked : test c.index.result.now ≡ true
    = ap (λ (asked_range : Range). has_score_in asked_range c.index.result.now) (sym c.interval-interval.ensures) ∙ sym c.if-is_within.ensures in
    let len : length new ≡ length rows = ap length s.items ∙ length-swap _ _ _ in
    record {
      order = omega arith;
      high = omega (arith, v.high, len);
      moves = IsPermutation-trans _ _ _ v.moves (IsPermutation-swap _ _ _ _ (omega (arith, v.high)) (omega (arith, v.high)) s.items);
      outside = AllWithin-swapped (λ r. test r ≡ false) rows new i last 0 i s.by_index
          (λ k d l h ni nj. v.outside k d l h) (λ l h n d. absurd (omega arith)) (λ l h d. absurd (omega arith));
      inside = AllWithin-swapped (λ r. test r ≡ true) rows new i last last (length new) s.by_index
          (λ k d l h ni nj. v.inside k d (omega arith) (omega (arith, len)))
          (λ l h n d. absurd (omega arith))
          (λ l h. holds_read (λ r. test r ≡ true) rows i c.index.result.now (omega (arith, v.high)) c.index.ensures asked);
      capacity = s.capacity ∙ v.capacity;
    }

pub loop-others-preserved : goal.loop-others-preserved
loop-others-preserved g c =
    let v = c.loop-others.invariant in
    let rows = c.loop-others.list.items in
    let test : Test = has_score_in c.args.range.now in
    let asked : test c.index.result.now ≡ false
    = ap (λ (asked_range : Range). has_score_in asked_range c.index.result.now) (sym c.interval-interval.ensures) ∙ sym c.if-is_within.ensures in
    record {
      order = omega arith;
      high = v.high;
      moves = v.moves;
      outside = AllWithin-more (λ r. test r ≡ false) rows 0 c.loop-others.others v.outside
          (holds_read (λ r. test r ≡ false) rows c.loop-others.others c.index.result.now (omega (arith, v.high)) c.index.ensures asked);
      inside = v.inside;
      capacity = v.capacity;
    }
