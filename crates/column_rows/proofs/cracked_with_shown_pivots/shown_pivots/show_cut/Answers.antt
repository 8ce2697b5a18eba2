use Rattle.std.proofs.Common.{◌≡◌, ℤ, Contains, length, subst, ap, arith}
use Rattle.std.proofs.lemmas.Int.{ints}
use Rattle.std.proofs.lemmas.List.Sorted.{IsPermutation-refl}
use Rattle.crack_kernel.specs.PivotList.{IsNewValue}
use Rattle.column_rows.specs.RangeCutsAsPivots.{new_values, values}
use Rattle.column_rows.proofs.InnerPivots.{HasCut-added, HasCut-at, among_added, value_among}
use Rattle.column_rows.proofs.Values.{Contains-added, new_values-new, new_values-pivot, values-added}
use Rattle.column_rows.proofs.cracked_with_shown_pivots.shown_pivots.show_cut.Goals as goal

pub add_at-requires-clause-room : goal.add_at-requires-clause-room
add_at-requires-clause-room g c =
    let ps = c.args.kept.now.list in
    let new : IsNewValue c.in-At.v ps = subst (λ (w : ℤ). IsNewValue w ps) (omega (arith, ints)) c.in-None.ensures in
    let one : length (new_values c.args.cut.now (values ps)) ≡ 1 = ap length (new_values-new c.args.cut.now c.in-At.v ps c.in-At.is new) in
    omega (arith, one, c.requires.room)

pub add_at-requires-clause-few : goal.add_at-requires-clause-few
add_at-requires-clause-few g c =
    let ps = c.args.kept.now.list in
    let new : IsNewValue c.in-At.v ps = subst (λ (w : ℤ). IsNewValue w ps) (omega (arith, ints)) c.in-None.ensures in
    let one : length (new_values c.args.cut.now (values ps)) ≡ 1 = ap length (new_values-new c.args.cut.now c.in-At.v ps c.in-At.is new) in
    omega (arith, one, c.requires.few)

pub returns-in-None-clause-values : goal.returns-in-None-clause-values
returns-in-None-clause-values g c =
    let ps = c.args.kept.now.list in
    let new : IsNewValue c.in-At.v ps = subst (λ (w : ℤ). IsNewValue w ps) (omega (arith, ints)) c.in-None.ensures in
    values-added c.args.cut.now c.in-At.v _ c.args.place ps c.add_at.new.self.list c.in-At.is (omega (arith, ints)) new c.add_at.ensures.list

pub returns-in-None-clause-among : goal.returns-in-None-clause-among
returns-in-None-clause-among g c ps among stands = among_added c.args.cut.now _ c.in-At.v c.args.place c.args.kept.now.list c.add_at.new.self.list ps c.in-At.is (omega (arith, ints)) c.add_at.ensures.list among stands

pub returns-in-None-clause-spare : goal.returns-in-None-clause-spare
returns-in-None-clause-spare g c =
    let ps = c.args.kept.now.list in
    let new : IsNewValue c.in-At.v ps = subst (λ (w : ℤ). IsNewValue w ps) (omega (arith, ints)) c.in-None.ensures in
    let one : length (new_values c.args.cut.now (values ps)) ≡ 1 = ap length (new_values-new c.args.cut.now c.in-At.v ps c.in-At.is new) in
    omega (arith, one, c.add_at.ensures.spare)

pub returns-in-Some-clause-values : goal.returns-in-Some-clause-values
returns-in-Some-clause-values g c =
    let ps = c.args.kept.now.list in
    let there : Contains ps (c.in-At.v, c.in-Some.field-0) = subst (λ (w : ℤ). Contains ps (w, c.in-Some.field-0)) (omega (arith, ints)) c.in-Some.ensures in
    rw (new_values-pivot c.args.cut.now c.in-At.v c.in-Some.field-0 ps c.in-At.is there) (IsPermutation-refl (values ps))

pub returns-in-Some-clause-spare : goal.returns-in-Some-clause-spare
returns-in-Some-clause-spare g c =
    let ps = c.args.kept.now.list in
    let there : Contains ps (c.in-At.v, c.in-Some.field-0) = subst (λ (w : ℤ). Contains ps (w, c.in-Some.field-0)) (omega (arith, ints)) c.in-Some.ensures in
    let none : length (new_values c.args.cut.now (values ps)) ≡ 0 = ap length (new_values-pivot c.args.cut.now c.in-At.v c.in-Some.field-0 ps c.in-At.is there) in
    omega (arith, none)

pub returns-in-None-clause-kept : goal.returns-in-None-clause-kept
returns-in-None-clause-kept g c = Contains-added _ c.args.place c.args.kept.now.list c.add_at.new.self.list c.add_at.ensures.list

pub returns-in-None-clause-has : goal.returns-in-None-clause-has
returns-in-None-clause-has g c = HasCut-added c.args.cut.now _ c.in-At.v c.args.place c.args.kept.now.list c.add_at.new.self.list c.in-At.is (omega (arith, ints)) c.add_at.ensures.list

pub returns-in-Some-clause-has : goal.returns-in-Some-clause-has
returns-in-Some-clause-has g c =
    let ps = c.args.kept.now.list in
    HasCut-at c.args.cut.now c.in-At.v _ c.in-At.is (subst (λ (w : ℤ). Contains (values ps) w) (omega (arith, ints)) (value_among ps _ c.in-Some.ensures))
