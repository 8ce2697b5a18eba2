use Rattle.std.proofs.Common.{◌≡◌, ◌-◌, ◌<◌, ◌≤◌, ◌++◌, ℤ, ℕ, List, ◌∷◌, take, drop, insert, length, IsPermutation, w64, of_z, to_z, subst, sym, ap, ◌∙◌, arith}
use Rattle.std.proofs.lemmas.Int.{ints}
use Rattle.std.proofs.lemmas.List.Edits.{length-insert}
use Rattle.std.proofs.lemmas.List.Sorted.{IsPermutation-insert}
use Rattle.crack_kernel.specs.PivotList.{PivotList, IsNewValue, IsRising, RisesPast, max_pivots}
use borrow.Rule.Slice.PartMut.{put_mid}
use Rattle.crack_kernel.proofs.PartMoves.{take-put_first}
use Rattle.crack_kernel.proofs.PivotOrder.{IsRising-insert}
use Rattle.crack_kernel.proofs.pivots.Pivots.add_at.Goals as goal
use Rattle.crack_kernel.proofs.pivots.Pivots.add_at.Given as given

-- the pivots in their buffer, once one was put among them
is_inserted : (g : given.Over) (c : goal.After-self-1 g)
    → take c.push_reserved.new.self.len (put_mid c.args.index (length c.deref_mut.result.now - c.args.index) c.deref_mut.result.now c.put_first.new.pivots
    ++ drop (length (put_mid c.args.index (length c.deref_mut.result.now - c.args.index) c.deref_mut.result.now c.put_first.new.pivots)) c.push_reserved.new.self.items)
    ≡ insert c.self.inside.list.items c.args.index (c.args.v, c.args.place)
is_inserted g c =
    let list = c.self.inside.list.items in
    let pushed : ℤ = to_z w64 (of_z w64 c.args.v) in
    let past : RisesPast c.args.v list c.args.index = subst (λ (p : PivotList). RisesPast c.args.v p.list c.args.index) (sym c.self.view_is) c.requires.index in
    let read : pushed ≡ c.args.v = omega (arith, ints) in
    take-put_first (pushed, c.args.place) c.args.index c.push_reserved.new.self.len list c.deref_mut.result.now c.put_first.new.pivots c.push_reserved.new.self.items
    (c.deref_mut.ensures.value ∙ c.push_reserved.ensures.items) past.within (omega (arith, c.push_reserved.ensures.len)) c.put_first.ensures
    ∙ ap (λ (z : ℤ). insert list c.args.index (z, c.args.place)) read

pub invariant_of-self : goal.invariant_of-self
invariant_of-self g c =
    let list = c.self.inside.list.items in
    let past : RisesPast c.args.v list c.args.index = subst (λ (p : PivotList). RisesPast c.args.v p.list c.args.index) (sym c.self.view_is) c.requires.index in
    let new : IsNewValue c.args.v list = subst (λ (p : PivotList). IsNewValue c.args.v p.list) (sym c.self.view_is) c.requires.new in
    let few : length list < max_pivots = subst (λ (p : PivotList). length p.list < max_pivots) (sym c.self.view_is) c.requires.few in
    subst (λ (ps : List (ℤ × ℕ)). IsRising ps × (length ps ≤ max_pivots)) (sym (is_inserted g c))
    (IsRising-insert c.args.v c.args.place c.args.index list c.self.invariant.0 past new, omega (arith, length-insert list c.args.index (c.args.v, c.args.place) past.within, few))

pub returns-clause-list : goal.returns-clause-list
returns-clause-list g c =
    let list = c.self.inside.list.items in
    rw (← c.self.view_is) (subst (λ (ps : List (ℤ × ℕ)). IsPermutation ((c.args.v, c.args.place) ∷ list) ps) (sym (is_inserted g c)) (IsPermutation-insert list c.args.index (c.args.v, c.args.place)))

pub returns-clause-rising : goal.returns-clause-rising
returns-clause-rising g c = (invariant_of-self g c).0
