use Rattle.std.proofs.Common.{◌≡◌, ℕ, ℤ, ◌++◌, take, drop, map, length, refl, ap, ◌∙◌, arith}
use Rattle.std.proofs.lemmas.List.{length-map, take_at}
use Rattle.crack_kernel.specs.PivotList.{closed_up}
use Rattle.crack_kernel.proofs.PivotOrder.{IsRising-map}
use Rattle.crack_kernel.proofs.pivots.Pivots.close_up.Goals as goal

pub invariant_of-self : goal.invariant_of-self
invariant_of-self g c =
    let list = c.self.inside.list.items in
    let moved : ℤ × ℕ → ℤ × ℕ = λ p. (p.0, closed_up c.args.from c.args.to p.1) in
    let new = c.close_places.new.pivots in
    let is : new ≡ map moved list = c.close_places.ensures ∙ ap (map moved) c.deref_mut.ensures.value in
    let whole : take c.self.inside.list.len (new ++ drop (length new) list) ≡ new = take_at new (drop (length new) list) c.self.inside.list.len (omega (arith, ap length is, length-map list moved)) in
    rw whole (rw is (IsRising-map moved list (λ p. refl) c.self.invariant.0, omega (arith, length-map list moved, c.self.invariant.1)))
