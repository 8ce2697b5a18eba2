use Rattle.std.proofs.Common.{◌≡◌, ℕ, ℤ, pos, List, get_or, ap, ◌∙◌, subst, Contains, arith}
use Rattle.std.proofs.lemmas.Int.{ints}
use Rattle.column_rows.proofs.Gaps.{length-values, values-set}
use Rattle.column_rows.proofs.InnerPivots.{among_more}
use Rattle.column_rows.proofs.cracked_with_shown_pivots.shown_pivots.take_places.Goals as goal

pub loop-i-preserved : goal.loop-i-preserved
loop-i-preserved g c =
    let v = c.loop-i.invariant in
    let ps = c.loop-i.kept.list in
    let long = length-values c.args.kept.now.list ps v.values in
    let qs = c.args.pivots.now.list in
    let p : ℤ × ℕ = get_or ps c.loop-i.i (pos 0, 0) in
    let value : (get_or c.list.result.now c.loop-i.i (pos 0, 0)).0 ≡ p.0 = ap (λ (xs : List (ℤ × ℕ)). (get_or xs c.loop-i.i (pos 0, 0)).0) c.list.ensures.value in
    record {
      values = rw c.set_place.ensures.list (values-set ps c.loop-i.i _ (pos 0, 0) (omega (arith, long))) ∙ v.values;
      spare = c.set_place.ensures.spare ∙ v.spare;
      among = among_more ps c.set_place.new.self.list qs c.loop-i.i c.place_near-place.result p.0 (omega (arith, long)) c.set_place.ensures.list v.among
          (subst (λ (w : ℤ). Contains qs (w, c.place_near-place.result)) (omega (arith, ints, value)) c.place_near-place.ensures);
    }

pub returns-clause-among : goal.returns-clause-among
returns-clause-among g c p (k, within, is) =
    let long = length-values c.args.kept.now.list c.loop-i.kept.list c.loop-i.invariant.values in
    let there = c.loop-i.invariant.among k p (omega (arith, long)) in
    subst (λ (q : ℤ × ℕ). Contains c.args.pivots.now.list q) is there
