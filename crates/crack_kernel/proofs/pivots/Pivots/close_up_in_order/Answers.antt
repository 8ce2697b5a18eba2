use Rattle.std.proofs.Common.{◌≤◌, ℕ, ℤ, List, map, nat_le, length, refl, sym, subst, ◌∙◌, arith, rules}
use Rattle.std.specs.List.{AllWithin}
use Rattle.std.proofs.lemmas.Bool.Decides.{nat_tests}
use Rattle.std.proofs.lemmas.List.{length-map}
use Rattle.std.proofs.lemmas.List.Sorted.{IsPartitionPoint-from_clause}
use Rattle.crack_kernel.specs.PivotList.{PivotList, ArePlacedInOrder, IsRising, closed_up, max_pivots}
use Rattle.crack_kernel.proofs.PartMoves.{take-put_map}
use Rattle.crack_kernel.proofs.PivotOrder.{IsRising-map, IsPartitionedBy-placed, closed_up-from}
use Rattle.crack_kernel.proofs.pivots.Pivots.close_up_in_order.Goals as goal

pub returns-clause-list : goal.returns-clause-list
returns-clause-list g c =
    let list = c.self.inside.list.items in
    let lent = c.deref.result.now in
    let first = c.partition_point-first.result in
    let from : ℕ = c.args.from in
    let moved : ℤ × ℕ → ℤ × ℕ = λ p. (p.0, closed_up from c.args.to p.1) in
    let rising : IsRising lent = subst (λ (ps : List (ℤ × ℕ)). IsRising ps) (sym c.deref.ensures.value) c.self.invariant.0 in
    let here : ArePlacedInOrder list = subst (λ (p : PivotList). ArePlacedInOrder p.list) (sym c.self.view_is) c.requires.places in
    let placed : ArePlacedInOrder lent = subst (λ (ps : List (ℤ × ℕ)). ArePlacedInOrder ps) (sym c.deref.ensures.value) here in
    let point = IsPartitionPoint-from_clause (λ p. nat_le p.1 from) lent first c.partition_point-first.ensures.partitioned (IsPartitionedBy-placed from lent rising placed) (λ a r q k. search rules) in
    let upto : AllWithin (λ p. p.1 ≤ from) lent 0 first = λ k d l h. let passed = point.0 k d l h in grind (arith, nat_tests) in
    let within : first ≤ length list = omega (arith, c.partition_point-first.ensures.bound, c.deref.ensures.len) in
    rw (← c.self.view_is) (take-put_map moved first c.self.inside.list.len list c.deref_mut.result.now c.close_places.new.pivots list c.deref_mut.ensures.value within (omega arith) c.close_places.ensures
    ∙ closed_up-from from c.args.to first list (subst (λ (ps : List (ℤ × ℕ)). AllWithin (λ p. p.1 ≤ from) ps 0 first) c.deref.ensures.value upto))

pub invariant_of-self : goal.invariant_of-self
invariant_of-self g c =
    let list = c.self.inside.list.items in
    let moved : ℤ × ℕ → ℤ × ℕ = λ p. (p.0, closed_up c.args.from c.args.to p.1) in
    subst (λ (ps : List (ℤ × ℕ)). IsRising ps × (length ps ≤ max_pivots)) (sym (returns-clause-list g c))
    (subst (λ (p : PivotList). IsRising (map moved p.list) × (length (map moved p.list) ≤ max_pivots)) c.self.view_is
    (IsRising-map moved list (λ p. refl) c.self.invariant.0, omega (arith, length-map list moved, c.self.invariant.1)))
