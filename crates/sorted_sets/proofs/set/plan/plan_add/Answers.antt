use Rattle.std.proofs.Common.{◌++◌, ◌≡◌, ◌∙◌, ◌<◌, ℕ, List, length, refl, ap, rules, pos, w64, true, arith}
use Rattle.std.proofs.lemmas.Int.{to_z_pos}
use Rattle.resp_wire.specs.Response.{Integer}
use Rattle.zset_commands.specs.MeaningOfForm.{scored}
use Rattle.zset_core.specs.SortedSet.{Members}
use Rattle.zset_core.specs.Semantics.{put_all, count_all}
use Rattle.sorted_sets.specs.MembersWithStagedScores.{current_score, staged_score, members_by, names_at}
use Rattle.zset_core.specs.RowEdits.{most_edits}
use Rattle.sorted_sets.proofs.Outlines.{outline_same, before, before_grown}
use Rattle.sorted_sets.proofs.Staging.{members_same}
use Rattle.sorted_sets.proofs.Bags.{NeedsAtMost-noted, Notes-same, Turns-between}
use Rattle.sorted_sets.proofs.PairSteps.{count_all-few, length_scored}
use Rattle.sorted_sets.specs.NamesTouchedByPlan.{mentions}
use Rattle.sorted_sets.proofs.Gathered.{IsLed-none, moved_between, noted_none}
use Rattle.sorted_sets.proofs.Naming.{moved_mentions}
use Rattle.sorted_sets.proofs.set.plan.plan_add.Goals as goal

pub returns-in-Ok-clause-ok : goal.returns-in-Ok-clause-ok
returns-in-Ok-clause-ok g c =
    let old = c.args.members.now.entries in
    let ps = scored c.args.pairs.now.scores.now c.args.pairs.now.arguments.now in
    let same = members_same old c.requires.settled in
    let small : c.in-Ok.count < 9223372036854775808 = search rules in
    let left = c.in-Ok.ensures.staged ∙ ap (λ (m : Members). put_all c.args.flags m ps) same in
    let new = c.stage_all.new.members.entries in
    let noted = Notes-same (count_all c.args.flags true (members_by staged_score old) ps) (members_by staged_score old) (members_by staged_score new) c.new-draft.result.edits c.stage_all.new.self.edits c.settle_moved.new.self.edits c.settle_moved.ensures.edits c.in-Ok.ensures.edits in
    record {
      kept = c.settle_moved.ensures.kept ∙ c.stage_all.ensures.kept ∙ c.new-draft.ensures.kept ∙ c.len.ensures.len;
      grows = c.stage_all.ensures.grows;
      waiting = c.settle_moved.ensures.waiting;
      members_are = left;
      edits_are = Turns-between (count_all c.args.flags true (members_by staged_score old) ps) (members_by staged_score old) (members_by current_score old) (members_by staged_score new) (members_by staged_score new) c.new-draft.result.edits c.settle_moved.new.self.edits same refl c.new-draft.ensures.coming c.new-draft.ensures.leaving noted;
      removed_are = tt;
      few_rows = NeedsAtMost-noted (count_all c.args.flags true (members_by staged_score old) ps) most_edits (members_by staged_score old) (members_by staged_score new) c.new-draft.result.edits _ c.new-draft.ensures.coming c.new-draft.ensures.leaving
          (omega (arith, c.requires.few, count_all-few c.args.flags true (members_by staged_score old) ps, length_scored c.args.pairs.now.scores.now c.args.pairs.now.arguments.now)) noted;
      outline_is = outline_same c.outline_staged-outline.result (before new c.settle_moved.new.self.kept) (members_by current_score old) (members_by staged_score new) (put_all c.args.flags (members_by current_score old) ps)
          (before_grown old new c.settle_moved.new.self.kept (c.settle_moved.ensures.kept ∙ c.stage_all.ensures.kept ∙ c.new-draft.ensures.kept ∙ c.len.ensures.len) c.stage_all.ensures.grows) left c.outline_staged-outline.ensures;
      reply_is = ap Integer (to_z_pos w64 c.in-Ok.count small ∙ ap pos (c.in-Ok.ensures.count ∙ ap (λ (m : Members). count_all c.args.flags c.args.changed m ps) same));
    }

pub returns-in-Ok-clause-rows : goal.returns-in-Ok-clause-rows
returns-in-Ok-clause-rows g c =
    let old = c.args.members.now.entries in
    let new = c.stage_all.new.members.entries in
    let ps = scored c.args.pairs.now.scores.now c.args.pairs.now.arguments.now in
    let written = count_all c.args.flags true (members_by staged_score old) ps in
    let same : written ≡ count_all c.args.flags true (members_by current_score old) ps = ap (λ (m : Members). count_all c.args.flags true m ps) (members_same old c.requires.settled) in
    NeedsAtMost-noted written (count_all c.args.flags true (members_by current_score old) ps) (members_by staged_score old) (members_by staged_score new) c.new-draft.result.edits _ c.new-draft.ensures.coming c.new-draft.ensures.leaving
    (omega (arith, same))
    (Notes-same written (members_by staged_score old) (members_by staged_score new) c.new-draft.result.edits c.stage_all.new.self.edits c.settle_moved.new.self.edits c.settle_moved.ensures.edits c.in-Ok.ensures.edits)

pub returns-in-Ok-clause-moved : goal.returns-in-Ok-clause-moved
returns-in-Ok-clause-moved g c =
    let old = c.args.members.now.entries in
    let new = c.stage_all.new.members.entries in
    let f = c.args.flags in
    let ps = scored c.args.pairs.now.scores.now c.args.pairs.now.arguments.now in
    let same = members_same old c.requires.settled in
    let was : Members = members_by current_score old in
    let is : Members = put_all f was ps in
    let left = c.in-Ok.ensures.staged ∙ ap (λ (m : Members). put_all f m ps) same in
    let first = before_grown old new c.stage_all.new.self.kept (c.stage_all.ensures.kept ∙ c.new-draft.ensures.kept ∙ c.len.ensures.len) c.stage_all.ensures.grows in
    let named = c.in-Ok.ensures.named ∙ ap (λ (l : List ℕ). names_at old l ++ mentions f (members_by staged_score old) ps) (noted_none c.new-draft.result c.new-draft.ensures.leading c.new-draft.ensures.touched) ∙ ap (λ (m : Members). mentions f m ps) same in
    record {
      counted = c.settle_moved.ensures.counted;
      names_are = c.settle_moved.ensures.names ∙ moved_between (before new c.stage_all.new.self.kept) was (members_by staged_score new) is _ (mentions f was ps) first left named ∙ moved_mentions f was ps;
    }

pub stage_all-requires-clause-led : goal.stage_all-requires-clause-led
stage_all-requires-clause-led g c = IsLed-none c.new-draft.result (length c.args.members.now.entries) (c.new-draft.ensures.kept ∙ c.len.ensures.len) c.new-draft.ensures.leading
