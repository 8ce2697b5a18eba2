use Rattle.std.proofs.Common.{◌≡◌, ◌≤◌, ◌-◌, ℤ, ℕ, w64, of_z, length, get_or, ap, subst, sym, ◌∙◌, arith}
use Rattle.std.proofs.lemmas.List.{get_or_default}
use Rattle.crack_kernel.specs.PivotList.{PivotList, IsNewValue, RisesPast}
use Rattle.crack_kernel.proofs.PivotOrder.{IsNewValue-between}
use Rattle.crack_kernel.proofs.pivots.Pivots.find_at.Goals as goal

pub returns-else-value-v : goal.returns-else-value-v
returns-else-value-v g c =
    let list = c.self.inside.list.items in
    let n = c.args.index in
    let read = c.index.result.now in
    let past : RisesPast c.args.v list n = subst (λ (v : PivotList). RisesPast c.args.v v.list n) (sym c.self.view_is) c.requires in
    let within : n ≤ length list = past.within in
    let new : IsNewValue c.args.v list = IsNewValue-between c.args.v list n c.self.invariant.0 past
    (λ d some same.
    let here : read.0 ≡ (get_or list (n - 1) d).0 = ap (λ (p : ℤ × ℕ). p.0) (c.index.ensures ∙ get_or_default list (n - 1) read d (omega arith)) in
    c.if-value-v.false (ap (of_z w64) (here ∙ same))) in
    subst (λ (v : PivotList). IsNewValue c.args.v v.list) c.self.view_is new
