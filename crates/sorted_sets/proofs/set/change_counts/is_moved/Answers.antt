use Rattle.std.proofs.Common.{◌∙◌, sym, ap, rules, SFits, w64, to_z, of_z, to_z-of_z, get_or}
use Rattle.sorted_sets.proofs.Outlines.{moved_apart, IsWaiting-skip, stays_at}
use Rattle.sorted_sets.proofs.set.change_counts.is_moved.Goals as goal

pub returns-then-slot-clause-moved : goal.returns-then-slot-clause-moved
returns-then-slot-clause-moved g c moved =
    let ts = c.args.touched.now in
    moved_apart c.args.members.now.entries (get_or ts c.loop-place.place-index 0) c.index-slot.result.now c.len-count.ensures.unique c.index-slot.ensures (λ same. c.if-slot.true (ap (of_z w64) same))

pub loop-place-preserved : goal.loop-place-preserved
loop-place-preserved g c =
    let ts = c.args.touched.now in
    let i = c.loop-place.place-index in
    let n : SFits w64 c.index-slot.result.now.staged = search rules in
    let h : SFits w64 c.index-slot.result.now.current = search rules in
    IsWaiting-skip ts i c.args.members.now.entries c.loop-place-test.true
    (stays_at c.args.members.now.entries (get_or ts i 0) c.index-slot.result.now c.index-slot.ensures (sym (to_z-of_z n) ∙ ap (to_z w64) c.if-slot.false ∙ to_z-of_z h)) c.loop-place.invariant
