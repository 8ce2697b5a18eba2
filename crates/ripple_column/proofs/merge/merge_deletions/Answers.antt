use Rattle.std.proofs.Common.{false, ◌≡◌, ◌<◌, ◌+◌, ◌&&◌, not, true, ℕ, cond, length, get_or, ℤ, List, count_by, ap, ◌∙◌, sym, arith}
use Rattle.std.proofs.lemmas.List.{get_or_default}
use Rattle.std.proofs.lemmas.List.Elements.{AllWithin-more}
use Rattle.score_bounds.specs.declared.ranges_and_cuts.Range.{Range}
use Rattle.crack_kernel.specs.RowBag.{Test}
use Rattle.crack_kernel.proofs.PartMoves.{holds_read}
use Rattle.column_rows.specs.Content.{has_score_in}
use Rattle.column_rows.proofs.Counts.{Contains-sub_bag, count_taken, count_swapped_out, count_zero, and_not}
use Rattle.column_rows.proofs.Frames.{KeepsFrame-more}
use Rattle.ripple_column.proofs.merge.merge_deletions.Goals as goal

pub ripple_remove-gone-requires-clause-there : goal.ripple_remove-gone-requires-clause-there
ripple_remove-gone-requires-clause-there g c =
    Contains-sub_bag c.loop-i.deletions.items c.loop-i.cracked.rows.items c.loop-i.i c.swap_remove-row.result c.loop-i.invariant.part (omega arith) c.swap_remove-row.ensures.value

pub loop-i-preserved-then-is_within : goal.loop-i-preserved-then-is_within
loop-i-preserved-then-is_within g c =
    let v = c.loop-i.invariant in
    let x = c.swap_remove-row.result in
    let old = c.loop-i.deletions.items in
    let new = c.swap_remove-row.new.self.items in
    let in' : c.loop-i.i < length old = omega arith in
    let out : (p : Test) → count_by p new + cond {A = ℕ} (p x) 1 0 ≡ count_by p old =
    λ p. count_swapped_out p old new c.loop-i.i x in' c.swap_remove-row.ensures.value c.swap_remove-row.ensures.items in
    let took : (p : Test) → count_by p c.ripple_remove-gone.new.rows.items + cond {A = ℕ} (p x) 1 0 ≡ count_by p c.loop-i.cracked.rows.items =
    λ p. count_taken p c.loop-i.cracked.rows.items c.ripple_remove-gone.new.rows.items x c.ripple_remove-gone.ensures.rows in
    record {
      fits = omega arith;
      part = λ p. omega (arith, v.part p, out p, took p);
      less = λ p. omega (arith, v.less p, out p);
      frame = KeepsFrame-more v.frame c.ripple_remove-gone.ensures.frame;
      content = λ p. omega (arith, v.content p, out p, took p);
      passed = λ k d l h. rw (c.swap_remove-row.ensures.others k d (λ e. absurd (omega arith)) (omega arith)) (v.passed k d l h);
      waiting = λ p.
          let w : Test = has_score_in c.args.range.now in
          let q : Test = λ r. p r && not (w r) in
          let y = c.index-list-i.result in
          let here : y ≡ get_or old c.loop-i.i y = c.index-list-i.is ∙ ap (λ (z : List (ℤ × List ℕ)). get_or z c.loop-i.i y) c.list.ensures in
          let same : x ≡ y = c.swap_remove-row.ensures.value ∙ get_or_default old c.loop-i.i x y in' ∙ sym here in
          let asked : w x ≡ true = ap w same ∙ sym (c.if-is_within.ensures ∙ ap (λ (asked_range : Range). has_score_in asked_range y) c.interval-interval.ensures) in
          let denied : cond {A = ℕ} (q x) 1 0 ≡ 0 = count_zero q x (and_not (p x) (w x) asked) in
          let one = out q in
          omega (arith, one, v.waiting p);
    }

pub loop-i-preserved : goal.loop-i-preserved
loop-i-preserved g c =
    let v = c.loop-i.invariant in
    let old = c.loop-i.deletions.items in
    let y = c.index-list-i.result in
    let here : y ≡ get_or old c.loop-i.i y = c.index-list-i.is ∙ ap (λ (z : List (ℤ × List ℕ)). get_or z c.loop-i.i y) c.list.ensures in
    let asked : has_score_in c.args.range.now y ≡ false
    = sym (c.if-is_within.ensures ∙ ap (λ (asked_range : Range). has_score_in asked_range y) c.interval-interval.ensures) in
    let outside : (d : ℤ × List ℕ) → has_score_in c.args.range.now (get_or old c.loop-i.i d) ≡ false
    = holds_read (λ r. has_score_in c.args.range.now r ≡ false) old c.loop-i.i y (omega arith) here asked in
    record {
      fits = omega arith;
      part = v.part;
      less = v.less;
      frame = v.frame;
      content = v.content;
      waiting = v.waiting;
      passed = AllWithin-more (λ r. has_score_in c.args.range.now r ≡ false) old 0 c.loop-i.i v.passed outside;
    }
