use Rattle.std.proofs.Common.{◌∙◌, refl, rules, get_or, SFits, w64, to_z, of_z, to_z-of_z}
use Rattle.sorted_sets.specs.MembersWithStagedScores.{staged_score}
use Rattle.sorted_sets.specs.declared.set.members_with_staged_scores.ScoreSlot.{ScoreSlot}
use Rattle.sorted_sets.proofs.Staging.{rows_kept, IsWaiting-next}
use Rattle.sorted_sets.proofs.set.members_with_staged_scores.adopt_staged.Goals as goal

pub loop-place-preserved : goal.loop-place-preserved
loop-place-preserved g c =
    let f : SFits w64 c.index.result.now.staged = search rules in
    let z = to_z w64 (of_z w64 c.index.result.now.staged) in
    let w : ScoreSlot = record { current = z; staged = z } in
    let es = c.loop-place.members.entries in
    let i = get_or c.args.touched.now c.loop-place.place-index 0 in
    record {
      staged = rows_kept staged_score es i c.index.result.now w c.index.ensures (to_z-of_z f) ∙ c.loop-place.invariant.staged;
      waiting = IsWaiting-next c.args.touched.now c.loop-place.place-index es w refl c.loop-place-test.true c.loop-place.invariant.waiting;
    }
