use Rattle.std.proofs.Common.{◌≡◌, ◌<◌, ◌≤◌, ℕ, ℤ, pos, List, length, get_or, ap, arith}
use Rattle.std.proofs.lemmas.List.{get_or_default}
use Rattle.column_rows.proofs.Gaps.{HasGap-place_down, values-set}
use Rattle.column_rows.proofs.gapped_rows.GappedRows.pass_pivot.Goals as goal

pub invariant_of-self : goal.invariant_of-self
invariant_of-self g c =
    let old = c.args.self.now in
    let ps = old.pivots.list in
    let i : ℕ = old.piece in
    let e : ℤ × ℕ = (pos 0, 0) in
    let in' : i < length ps = c.requires.piece in
    let at : (get_or c.list.result.now i e).1 ≡ (get_or ps i e).1 = ap (λ (z : List (ℤ × ℕ)). (get_or z i e).1) c.list.ensures.value in
    let upto : (get_or c.list.result.now i e).1 ≤ old.high = omega (arith, c.if-list-self.false) in
    let from : old.high ≤ (get_or ps i e).1 = old.has_gap.above i e (omega arith) in' in
    let is : (get_or ps i e).1 ≡ old.high = omega (arith, at, upto, from) in
    record { has_gap = rw c.set_place.ensures.list (HasGap-place_down ps old.rows.items i old.low old.high e in' is old.has_gap) }

pub returns-then-list-self-clause-none : goal.returns-then-list-self-clause-none
returns-then-list-self-clause-none g c is k d from lt =
    let old = c.args.self.now in
    let ps = old.pivots.list in
    let i : ℕ = old.piece in
    let e : ℤ × ℕ = (pos 0, 0) in
    let at : (get_or c.list.result.now i e).1 ≡ (get_or ps i e).1 = ap (λ (z : List (ℤ × ℕ)). (get_or z i e).1) c.list.ensures.value in
    let over : old.high < (get_or c.list.result.now i e).1 = omega (arith, c.if-list-self.true) in
    let same : (get_or ps i e).1 ≡ (get_or ps i d).1 = ap (λ (q : ℤ × ℕ). q.1) (get_or_default ps i e d c.requires.piece) in
    let up : (get_or ps i d).1 ≤ (get_or ps k d).1 = old.has_gap.rise i k d from lt in
    omega (arith, at, over, same, up)

pub returns-clause-values : goal.returns-clause-values
returns-clause-values g c = rw c.set_place.ensures.list (values-set c.args.self.now.pivots.list c.args.self.now.piece _ (pos 0, 0) c.requires.piece)
