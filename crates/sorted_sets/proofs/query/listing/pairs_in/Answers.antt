use Rattle.std.proofs.Common.{◌∙◌, sym, ap, ℤ, ℕ, List, SFits, w64, to_z-of_z, rules}
use Rattle.sorted_sets.proofs.Order.{rows_step}
use Rattle.sorted_sets.proofs.query.listing.pairs_in.Goals as goal

pub loop-place-preserved : goal.loop-place-preserved
loop-place-preserved g c =
    let slot = c.in-Some.slot.now in
    let f : SFits w64 slot.current = search rules in
    rows_step c.args.members.now.entries c.loop-place.place (c.in-Some.member.now, slot) c.loop-place.pairs.items c.push.new.self.items _
    (sym c.in-Some.ensures.entry) (ap (λ (z : ℤ). (z, c.as_slice.result.now)) (to_z-of_z f) ∙ ap (λ (m : List ℕ). (slot.current, m)) c.as_slice.ensures) c.in_ok-push-in-Some.ensures.items c.loop-place.invariant
