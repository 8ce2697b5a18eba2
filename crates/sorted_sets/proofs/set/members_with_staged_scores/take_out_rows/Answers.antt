use Rattle.std.proofs.Common.{◌∙◌, sym, ap, drop, ◌+◌}
use Rattle.std.specs.FinMap as map
use Rattle.sorted_sets.specs.MembersWithStagedScores.{current_score, members_by}
use Rattle.zset_core.specs.SortedSet.{Members, names_of}
use Rattle.zset_core.specs.Semantics.{remove_all}
use Rattle.sorted_sets.proofs.Staging.{members_gone, ScoresAreSettled-gone}
use Rattle.sorted_sets.proofs.RangeRemoval.{remove_row_step}
use Rattle.sorted_sets.proofs.set.members_with_staged_scores.take_out_rows.Goals as goal

pub loop-row-preserved : goal.loop-row-preserved
loop-row-preserved g c =
    let rs = c.args.rows.now in
    let i = c.loop-row.row-index in
    let rest = names_of (drop (i + 1) rs) in
    let old = members_by current_score c.loop-row.members.entries in
    record {
      members = ap (λ (m : Members). remove_all m rest) (members_gone current_score c.member.result.now c.loop-row.members c.swap_remove.new.self c.swap_remove.ensures.updates)
          ∙ ap (λ k. remove_all (map.remove old k) rest) c.member.ensures
          ∙ sym (remove_row_step old rs i c.row-item.result c.loop-row-test.true c.row-item.is)
          ∙ c.loop-row.invariant.members;
      settled = ScoresAreSettled-gone c.member.result.now c.loop-row.members c.swap_remove.new.self c.swap_remove.ensures.updates c.swap_remove.ensures.unique c.loop-row.invariant.settled;
    }
