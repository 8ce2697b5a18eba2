use Rattle.std.proofs.Common.{ℕ, ℤ, List, subst, sym, arith, rules}
use Rattle.std.specs.Int.Signed.{le_z}
use Rattle.std.proofs.lemmas.Int.{ints}
use Rattle.std.proofs.lemmas.List.Sorted.{IsPartitionPoint-from_clause}
use Rattle.crack_kernel.specs.PivotList.{PivotList, IsRising, RisesPast}
use Rattle.crack_kernel.proofs.PivotOrder.{IsPartitionedBy-rising}
use Rattle.crack_kernel.proofs.pivots.Pivots.count_upto.Goals as goal

pub returns : goal.returns
returns g c =
    let v : ℤ = c.args.v in
    let lent = c.deref.result.now in
    let rising : IsRising lent = subst (λ (ps : List (ℤ × ℕ)). IsRising ps) (sym c.deref.ensures.value) c.self.invariant.0 in
    let point = IsPartitionPoint-from_clause (λ p. le_z p.0 v) lent c.partition_point.result c.partition_point.ensures.partitioned (IsPartitionedBy-rising v lent rising) (λ a r q k. search rules) in
    let past : RisesPast v lent c.partition_point.result = record {
      within = c.partition_point.ensures.bound;
      upto = λ k d l h. let passed = point.0 k d l h in grind (arith, ints);
      above = λ k d l h. let failed = point.1 k d l h in grind (arith, ints);
    } in
    subst (λ (p : PivotList). RisesPast v p.list c.partition_point.result) c.self.view_is (subst (λ (ps : List (ℤ × ℕ)). RisesPast v ps c.partition_point.result) c.deref.ensures.value past)
