use Rattle.std.proofs.Common.{◌≡◌, subst, ◌-◌, ℕ, length, ap, ◌∙◌, refl, arith}
use Rattle.std.proofs.lemmas.List.Sorted.{IsPermutation-trans, IsPermutation-refl, IsPermutation-swap}
use Rattle.std.proofs.lemmas.List.Edits.{length-swap}
use Rattle.column_rows.proofs.Windows.{BlocksSwapped, BlocksSwapped-start, BlocksSwapped-step, ChangedPlaces-from_swaps}
use Rattle.column_rows.proofs.gap_moves.change_places.Goals as goal
use Rattle.column_rows.proofs.gap_moves.change_places.Goals.{then-below-above, else-below-above}

pub loop-i-init : goal.loop-i-init
loop-i-init g c = record {
  moves = IsPermutation-refl _;
  blocks = BlocksSwapped-start _ _ _;
  len = refl;
  capacity = refl;
}

pub loop-i-preserved : goal.loop-i-preserved
loop-i-preserved g c =
    let v = c.loop-i.invariant in
    let s = c.swap.ensures in
    record {
      moves = IsPermutation-trans _ _ _ v.moves (IsPermutation-swap _ _ _ _ (omega (arith, v.len)) (omega (arith, v.len)) s.items);
      blocks = BlocksSwapped-step _ _ _ _ _ _ (omega arith) v.blocks s.by_index;
      len = ap length s.items ∙ length-swap _ _ _ ∙ v.len;
      capacity = s.capacity ∙ v.capacity;
    }

pub returns-clause-changed : goal.returns-clause-changed
returns-clause-changed g c =
    let v = c.loop-i.invariant in
    let done : c.loop-i.i ≡ c.if-below-above.count = omega arith in
    let blocks : BlocksSwapped c.args.rows.now.items c.loop-i.rows.items c.args.low (c.args.high - c.if-below-above.count) c.if-below-above.count = subst (λ (m : ℕ). BlocksSwapped c.args.rows.now.items c.loop-i.rows.items c.args.low (c.args.high - c.if-below-above.count) m) done v.blocks in
    elim c.if-below-above.branch [
      | then-below-above w ↦
          ChangedPlaces-from_swaps _ _ _ _ _ c.if-below-above.count c.requires.order c.requires.above (omega arith) (omega arith) (λ h. omega arith) (λ h. omega arith) blocks
      | else-below-above w ↦
          ChangedPlaces-from_swaps _ _ _ _ _ c.if-below-above.count c.requires.order c.requires.above (omega arith) (omega arith) (λ h. omega arith) (λ h. omega arith) blocks
    ]
