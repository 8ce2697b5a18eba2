use Rattle.std.proofs.Common.{◌≡◌, ℤ, Contains, length, sym, subst, ap, inl, inr, ◌∙◌, arith}
use Rattle.std.proofs.lemmas.Bool.{false≢true}
use Rattle.std.proofs.lemmas.Int.{ints}
use Rattle.std.proofs.lemmas.List.Sorted.{IsPermutation-refl}
use Rattle.crack_kernel.specs.PivotList.{IsNewValue}
use Rattle.column_rows.specs.RangeCutsAsPivots.{new_values, values, IsApart}
use Rattle.column_rows.proofs.Values.{list_any-new, new_values-new, new_values-pivot, values-added, StandsAt-added, Contains-added}
use Rattle.column_rows.proofs.cut_cracks.crack_at_cut.Goals as goal

pub crack_at-requires-clause-room : goal.crack_at-requires-clause-room
crack_at-requires-clause-room g c =
    let ps = c.args.cracked.now.pivots.list in
    let new : IsNewValue c.in-At.v ps = subst (λ (w : ℤ). IsNewValue w ps) (omega (arith, ints)) c.in-None.ensures in
    let one : length (new_values c.args.cut.now (values ps)) ≡ 1 = ap length (new_values-new c.args.cut.now c.in-At.v ps c.in-At.is new) in
    omega (arith, c.requires.room)

pub crack_at-requires-clause-few : goal.crack_at-requires-clause-few
crack_at-requires-clause-few g c =
    let ps = c.args.cracked.now.pivots.list in
    let new : IsNewValue c.in-At.v ps = subst (λ (w : ℤ). IsNewValue w ps) (omega (arith, ints)) c.in-None.ensures in
    let one : length (new_values c.args.cut.now (values ps)) ≡ 1 = ap length (new_values-new c.args.cut.now c.in-At.v ps c.in-At.is new) in
    omega (arith, c.requires.few)

pub returns-in-Some-clause-values : goal.returns-in-Some-clause-values
returns-in-Some-clause-values g c =
    let ps = c.args.cracked.now.pivots.list in
    let there : Contains ps (c.in-At.v, c.in-Some.place) = subst (λ (w : ℤ). Contains ps (w, c.in-Some.place)) (omega (arith, ints)) c.in-Some.ensures in
    rw (new_values-pivot c.args.cut.now c.in-At.v c.in-Some.place ps c.in-At.is there) (IsPermutation-refl (values ps))

pub returns-in-Some-clause-spare : goal.returns-in-Some-clause-spare
returns-in-Some-clause-spare g c =
    let ps = c.args.cracked.now.pivots.list in
    let there : Contains ps (c.in-At.v, c.in-Some.place) = subst (λ (w : ℤ). Contains ps (w, c.in-Some.place)) (omega (arith, ints)) c.in-Some.ensures in
    let none : length (new_values c.args.cut.now (values ps)) ≡ 0 = ap length (new_values-pivot c.args.cut.now c.in-At.v c.in-Some.place ps c.in-At.is there) in
    omega arith

pub returns-in-None-clause-place : goal.returns-in-None-clause-place
returns-in-None-clause-place g c =
    StandsAt-added c.args.cut.now c.in-At.v _ c.crack_at.result (length c.crack_at.new.cracked.rows.items) c.args.cracked.now.pivots.list c.crack_at.new.cracked.pivots.list c.in-At.is (omega (arith, ints)) c.crack_at.ensures.pivots

pub returns-in-None-clause-values : goal.returns-in-None-clause-values
returns-in-None-clause-values g c =
    let ps = c.args.cracked.now.pivots.list in
    let new : IsNewValue c.in-At.v ps = subst (λ (w : ℤ). IsNewValue w ps) (omega (arith, ints)) c.in-None.ensures in
    values-added c.args.cut.now c.in-At.v _ c.crack_at.result ps c.crack_at.new.cracked.pivots.list c.in-At.is (omega (arith, ints)) new c.crack_at.ensures.pivots

pub returns-in-None-clause-kept : goal.returns-in-None-clause-kept
returns-in-None-clause-kept g c = Contains-added _ c.crack_at.result c.args.cracked.now.pivots.list c.crack_at.new.cracked.pivots.list c.crack_at.ensures.pivots

pub returns-in-None-clause-spare : goal.returns-in-None-clause-spare
returns-in-None-clause-spare g c =
    let ps = c.args.cracked.now.pivots.list in
    let new : IsNewValue c.in-At.v ps = subst (λ (w : ℤ). IsNewValue w ps) (omega (arith, ints)) c.in-None.ensures in
    let one : length (new_values c.args.cut.now (values ps)) ≡ 1 = ap length (new_values-new c.args.cut.now c.in-At.v ps c.in-At.is new) in
    omega (arith, c.crack_at.ensures.spare)

pub returns-in-None-clause-still : goal.returns-in-None-clause-still
returns-in-None-clause-still g c k d outside =
    let ps = c.args.cracked.now.pivots.list in
    let new : IsNewValue c.in-At.v ps = subst (λ (w : ℤ). IsNewValue w ps) (omega (arith, ints)) c.in-None.ensures in
    elim (rw c.in-At.is at outside) [
      | inl found ↦ absurd (false≢true (sym (list_any-new c.in-At.v ps new) ∙ found))
      | inr apart ↦ c.crack_at.ensures.still k d (subst (λ (w : ℤ). IsApart w ps k) (omega (arith, ints)) apart)
    ]
