use Rattle.std.proofs.Common.{ℤ, Contains, subst, refl, arith}
use Rattle.std.proofs.lemmas.Int.{ints}
use Rattle.crack_kernel.specs.PivotList.{IsNewValue}
use Rattle.column_rows.proofs.Values.{new_values-new, new_values-pivot}
use Rattle.column_rows.proofs.cut_cracks.count_missing.Goals as goal

pub returns-in-None : goal.returns-in-None
returns-in-None g c =
    let ps = c.args.pivots.now.list in
    let new : IsNewValue c.in-At.v ps = subst (λ (w : ℤ). IsNewValue w ps) (omega (arith, ints)) c.in-None.ensures in
    rw (new_values-new c.args.cut.now c.in-At.v ps c.in-At.is new) refl

pub returns-in-Some : goal.returns-in-Some
returns-in-Some g c =
    let ps = c.args.pivots.now.list in
    let there : Contains ps (c.in-At.v, c.in-Some.field-0) = subst (λ (w : ℤ). Contains ps (w, c.in-Some.field-0)) (omega (arith, ints)) c.in-Some.ensures in
    rw (new_values-pivot c.args.cut.now c.in-At.v c.in-Some.field-0 ps c.in-At.is there) refl
