use Rattle.std.proofs.Common.{◌≡◌, ◌+◌, ◌-◌, ◌<◌, ◌≤◌, ◌++◌, ◌∷◌, [], length, get_or, take, ℕ, ℤ, List, Some, sym, ap, ◌∙◌, arith, vec_len, length-append}
use Rattle.std.proofs.lemmas.Int.{ints}
use Rattle.std.proofs.lemmas.List.{take-append-le}
use Rattle.crack_kernel.proofs.PivotOrder.{RisesPast-same}
use Rattle.column_rows.specs.MergeGap.{blank}
use Rattle.column_rows.proofs.Blanks.{count_put, count_pushed, blanks_more}
use Rattle.column_rows.proofs.gapped_rows.GappedRows.fill.Goals as goal

pub put-requires-clause-piece : goal.put-requires-clause-piece
put-requires-clause-piece g c =
    let row = c.in-Some.row in
    let ps = c.loop-self.self.pivots.list in
    let old = c.loop-self.insertions.items in
    let new = c.pop.new.self.items in
    let y = c.index-list-len.result in
    let here : y ≡ get_or old (c.len-in-loop-self.result - 1) y = c.index-list-len.is ∙ ap (λ (z : List (ℤ × List ℕ)). get_or z (c.len-in-loop-self.result - 1) y) c.list.ensures in
    let next : y ≡ row =
    let some : 0 < vec_len c.loop-self.insertions = omega arith in
    let is : Some row ≡ Some (get_or old (vec_len c.loop-self.insertions - 1) y) = c.in-Some.ensures.value y some in
    let last : row ≡ get_or old (vec_len c.loop-self.insertions - 1) y = cc in
    let len : c.len-in-loop-self.result ≡ vec_len c.loop-self.insertions = omega arith in
    here ∙ ap (λ (m : ℕ). get_or old (m - 1) y) len ∙ sym last in
    let score : y.0 ≡ row.0 = ap (λ (r : ℤ × List ℕ). r.0) next in
    RisesPast-same _ _ ps _ (omega (arith, ints, score)) (c.is_in_piece.ensures c.if-not-is_in_piece.false)

pub loop-self-preserved : goal.loop-self-preserved
loop-self-preserved g c =
    let v = c.loop-self.invariant in
    let f = c.put.ensures.filled in
    let me = c.loop-self.self in
    let xs = me.rows.items in
    let at : ℕ = me.low in
    let row = c.in-Some.row in
    let old = c.loop-self.insertions.items in
    let new = c.pop.new.self.items in
    let within : me.high ≤ length xs = me.has_gap.within in
    let in' : at < length xs = omega arith in
    let out : old ≡ new ++ row ∷ [] = c.in-Some.ensures.items in
    let len_old : length old ≡ length new + 1 = ap length out ∙ length-append new (row ∷ []) in
    let is_blank : get_or xs at blank ≡ blank = me.has_gap.blanks at blank (omega arith) c.loop-self-test.true in
    record {
      filled = record {
        piece = f.piece ∙ v.filled.piece;
        low = omega (arith, f.low, v.filled.low);
        high = f.high ∙ v.filled.high;
        pivots = f.pivots ∙ v.filled.pivots;
        len = f.len ∙ v.filled.len;
        capacity = f.capacity ∙ v.filled.capacity;
      };
      content = λ p.
          let put = count_put p xs c.put.new.self.rows.items at blank row in' c.put.ensures.rows is_blank in
          let gone = count_pushed p old new row out in
          let more = blanks_more p (at - c.args.self.now.low) (c.put.new.self.low - c.args.self.now.low) (omega (arith, v.filled.low, c.put.ensures.low)) in
          omega (arith, put, gone, more, v.content p);
      taken = record {
        within = omega arith;
        before = sym (ap (take c.args.from) out ∙ take-append-le c.args.from new (row ∷ []) (omega arith)) ∙ v.taken.before;
        less = λ p. let gone = count_pushed p old new row out in omega (arith, gone, v.taken.less p);
      };
    }
