use Rattle.std.proofs.Common.{false, ◌≡◌, ◌<◌, ◌+◌, ◌++◌, ◌∷◌, [], ◌&&◌, not, true, ℕ, Bool, cond, length, get_or, ℤ, List, length-append, count_by, ap, ◌∙◌, sym, arith}
use Rattle.std.proofs.lemmas.List.{get_or_default}
use Rattle.std.proofs.lemmas.List.Elements.{AllWithin-more}
use Rattle.std.proofs.lemmas.List.Sorted.{length_permutation}
use Rattle.score_bounds.specs.declared.ranges_and_cuts.Range.{Range}
use Rattle.crack_kernel.specs.RowBag.{Test}
use Rattle.crack_kernel.proofs.PartMoves.{holds_read}
use Rattle.column_rows.specs.Content.{has_score_in}
use Rattle.column_rows.proofs.Counts.{count_push, count_moved, count_swapped_out, count_zero, and_not}
use Rattle.column_rows.proofs.Frames.{KeepsFrame-more}
use Rattle.ripple_column.proofs.merge.merge_insertions.Goals as goal

pub ripple_insert-requires-clause-room : goal.ripple_insert-requires-clause-room
ripple_insert-requires-clause-room g c =
    let old = c.loop-i.insertions.items in
    let x = c.swap_remove-row.result in
    let w : Test = has_score_in c.args.range.now in
    let in' : c.loop-i.i < length old = omega arith in
    let y = c.index-list-i.result in
    let here : y ≡ get_or old c.loop-i.i y = c.index-list-i.is ∙ ap (λ (z : List (ℤ × List ℕ)). get_or z c.loop-i.i y) c.list.ensures in
    let same : x ≡ y = c.swap_remove-row.ensures.value ∙ get_or_default old c.loop-i.i x y in' ∙ sym here in
    let asked : w x ≡ true = ap w same ∙ sym (c.if-is_within.ensures ∙ ap (λ (asked_range : Range). has_score_in asked_range y) c.interval-interval.ensures) in
    let less = count_swapped_out w old c.swap_remove-row.new.self.items c.loop-i.i x in' c.swap_remove-row.ensures.value c.swap_remove-row.ensures.items in
    let one : cond {A = ℕ} (w x) 1 0 ≡ 1 = ap (λ (b : Bool). cond {A = ℕ} b 1 0) asked in
    omega (arith, less, one, c.loop-i.invariant.room, c.loop-i.invariant.frame.capacity)

pub loop-i-preserved-then-is_within : goal.loop-i-preserved-then-is_within
loop-i-preserved-then-is_within g c =
    let v = c.loop-i.invariant in
    let x = c.swap_remove-row.result in
    let old = c.loop-i.insertions.items in
    let left = c.swap_remove-row.new.self.items in
    let rows = c.loop-i.cracked.rows.items in
    let new = c.ripple_insert.new.rows.items in
    let w : Test = has_score_in c.args.range.now in
    let in' : c.loop-i.i < length old = omega arith in
    let y = c.index-list-i.result in
    let here : y ≡ get_or old c.loop-i.i y = c.index-list-i.is ∙ ap (λ (z : List (ℤ × List ℕ)). get_or z c.loop-i.i y) c.list.ensures in
    let same : x ≡ y = c.swap_remove-row.ensures.value ∙ get_or_default old c.loop-i.i x y in' ∙ sym here in
    let asked : w x ≡ true = ap w same ∙ sym (c.if-is_within.ensures ∙ ap (λ (asked_range : Range). has_score_in asked_range y) c.interval-interval.ensures) in
    let out : (p : Test) → count_by p left + cond {A = ℕ} (p x) 1 0 ≡ count_by p old =
    λ p. count_swapped_out p old left c.loop-i.i x in' c.swap_remove-row.ensures.value c.swap_remove-row.ensures.items in
    let put : (p : Test) → count_by p new ≡ count_by p rows + cond {A = ℕ} (p x) 1 0 = λ p. count_moved p (rows ++ x ∷ []) new c.ripple_insert.ensures.rows ∙ count_push p rows x in
    let long : length new ≡ length rows + 1 = length_permutation (rows ++ x ∷ []) new c.ripple_insert.ensures.rows ∙ length-append rows (x ∷ []) in
    let one : cond {A = ℕ} (w x) 1 0 ≡ 1 = ap (λ (b : Bool). cond {A = ℕ} b 1 0) asked in
    record {
      fits = omega arith;
      less = λ p. omega (arith, v.less p, out p);
      frame = KeepsFrame-more v.frame c.ripple_insert.ensures.frame;
      room = let less = out w in omega (arith, less, one, long, v.room);
      content = λ p. omega (arith, v.content p, out p, put p);
      passed = λ k d l h. rw (c.swap_remove-row.ensures.others k d (λ e. absurd (omega arith)) (omega arith)) (v.passed k d l h);
      waiting = λ p.
          let q : Test = λ r. p r && not (w r) in
          let denied : cond {A = ℕ} (q x) 1 0 ≡ 0 = count_zero q x (and_not (p x) (w x) asked) in
          let gone = out q in
          omega (arith, gone, denied, v.waiting p);
    }

pub loop-i-preserved : goal.loop-i-preserved
loop-i-preserved g c =
    let v = c.loop-i.invariant in
    let old = c.loop-i.insertions.items in
    let y = c.index-list-i.result in
    let here : y ≡ get_or old c.loop-i.i y = c.index-list-i.is ∙ ap (λ (z : List (ℤ × List ℕ)). get_or z c.loop-i.i y) c.list.ensures in
    let asked : has_score_in c.args.range.now y ≡ false
    = sym (c.if-is_within.ensures ∙ ap (λ (asked_range : Range). has_score_in asked_range y) c.interval-interval.ensures) in
    let outside : (d : ℤ × List ℕ) → has_score_in c.args.range.now (get_or old c.loop-i.i d) ≡ false
    = holds_read (λ r. has_score_in c.args.range.now r ≡ false) old c.loop-i.i y (omega arith) here asked in
    record {
      fits = omega arith;
      room = v.room;
      less = v.less;
      frame = v.frame;
      content = v.content;
      waiting = v.waiting;
      passed = AllWithin-more (λ r. has_score_in c.args.range.now r ≡ false) old 0 c.loop-i.i v.passed outside;
    }
