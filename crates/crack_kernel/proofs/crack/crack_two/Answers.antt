use Rattle.std.proofs.Common.{◌≡◌, ◌≤◌, ◌-◌, length, ◌∙◌, inl, inr, arith}
use Rattle.std.proofs.lemmas.Bool.{cases_lt}
use Rattle.std.proofs.lemmas.Int.{ints}
use Rattle.std.proofs.lemmas.List.Sorted.{IsPermutation-put_mid, IsPermutation-trans, length_permutation}
use Rattle.std.proofs.lemmas.Slice.{between-put_mid, drop-put_mid, take-put_mid_below}
use borrow.Rule.Slice.PartMut.{put_mid, mid_len}
use Rattle.crack_kernel.specs.PartedRows.{ChangesWithin}
use Rattle.crack_kernel.proofs.PartChanges.{ChangesWithin-front, ChangesWithin-back}
use Rattle.crack_kernel.proofs.PartMoves.{get_or-put_mid}
use Rattle.crack_kernel.proofs.crack.crack_two.Goals as goal

pub returns-clause-permutation : goal.returns-clause-permutation
returns-clause-permutation g c =
    let from = c.crack_ends-from.result.0 in
    let to = c.crack_ends-from.result.1 in
    IsPermutation-trans _ _ _ c.crack_ends-from.ensures.permutation
    (IsPermutation-put_mid from (to - from) c.crack_ends-from.new.rows c.crack_run.new.rows c.crack_run.ensures.permutation)

pub returns-clause-parted : goal.returns-clause-parted
returns-clause-parted g c =
    let from = c.crack_ends-from.result.0 in
    let to = c.crack_ends-from.result.1 in
    let xs = c.crack_ends-from.new.rows in
    let zs = c.crack_run.new.rows in
    let ys = put_mid from (to - from) xs zs in
    let e = c.crack_ends-from.ensures in
    let p = c.crack_run.ensures.parted in
    let within : to ≤ length xs = e.order.1 in
    let order : from ≤ to = e.order.0 in
    let long : length zs ≡ to - from = c.crack_run.auto.rows ∙ mid_len from to xs within in
    let fits : c.crack_run.result ≤ length zs = p.within in
    let changes : ChangesWithin from to xs ys = record {
      front = take-put_mid_below from (to - from) xs zs from (omega arith) (omega arith);
      back = drop-put_mid from (to - from) xs zs to (omega arith) (omega arith) long;
      inside = rw (between-put_mid from (to - from) xs zs to (omega arith) long) c.crack_run.ensures.permutation;
    } in
    let len : length ys ≡ length xs = length_permutation xs ys (IsPermutation-put_mid from (to - from) xs zs c.crack_run.ensures.permutation) in
    record {
      within = rw len (omega arith);
      before = λ k d l h.
          elim (cases_lt k from) [
            | inl a ↦ rw (ChangesWithin-front from to xs ys changes k d a) (omega (arith, ints, e.below k d l a))
            | inr b ↦ rw (get_or-put_mid from (to - from) xs zs k d (omega arith) b (omega arith)) (omega (arith, ints, p.before (k - from) d (omega arith) (omega arith)))
          ];
      behind = λ k d l h.
          elim (cases_lt k to) [
            | inl a ↦ rw (get_or-put_mid from (to - from) xs zs k d (omega arith) (omega arith) (omega arith)) (omega (arith, ints, p.behind (k - from) d (omega arith) (omega arith)))
            | inr b ↦ rw (ChangesWithin-back from to xs ys changes k d b) (omega (arith, ints, e.behind k d b (omega (arith, len, h))))
          ];
    }
