use Rattle.std.proofs.Common.{◌≤◌, ℕ, ℤ, List, length, subst, sym, true, false, arith}
use Rattle.crack_kernel.specs.PivotList.{PivotList, IsRising, shifted_pivot, max_pivots}
use Rattle.crack_kernel.proofs.PartMoves.{take-put_map}
use Rattle.crack_kernel.proofs.PivotOrder.{IsRising-shifted, length-shifted}
use Rattle.crack_kernel.proofs.pivots.Pivots.shift.Goals as goal
use Rattle.crack_kernel.proofs.pivots.Pivots.shift.Goals.{then-up, else-up}

pub invariant_of-self : goal.invariant_of-self
invariant_of-self g c =
    let list = c.self.inside.list.items in
    let from : c.args.from_index ≤ length list = subst (λ (v : PivotList). c.args.from_index ≤ length v.list) (sym c.self.view_is) c.requires.from in
    elim c.if-up.branch [
      | then-up w ↦
          let is = take-put_map (shifted_pivot true) c.args.from_index c.self.inside.list.len list c.deref_mut.result.now w.raise.new.pivots list c.deref_mut.ensures.value from (omega arith) w.raise.ensures in
          rw w.self-inside-is (subst (λ (ps : List (ℤ × ℕ)). IsRising ps × (length ps ≤ max_pivots)) (sym is) (IsRising-shifted c.args.from_index true list from c.self.invariant.0, omega (arith, length-shifted c.args.from_index true list, c.self.invariant.1)))
      | else-up w ↦
          let is = take-put_map (shifted_pivot false) c.args.from_index c.self.inside.list.len list c.deref_mut.result.now w.lower.new.pivots list c.deref_mut.ensures.value from (omega arith) w.lower.ensures in
          rw w.self-inside-is (subst (λ (ps : List (ℤ × ℕ)). IsRising ps × (length ps ≤ max_pivots)) (sym is) (IsRising-shifted c.args.from_index false list from c.self.invariant.0, omega (arith, length-shifted c.args.from_index false list, c.self.invariant.1)))
    ]
