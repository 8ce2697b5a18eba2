use Rattle.std.proofs.Common.{◌++◌, ◌≡◌, ◌∙◌, List, length, refl, ap, arith, true, ℕ, ℤ, subst, w64, to_z, of_z, to_z-of_z}
use Rattle.std.specs.FinMap as map
use Rattle.zset_core.specs.SortedSet.{Members}
use Rattle.zset_core.specs.RowEdits.{Notes, most_edits}
use Rattle.zset_core.specs.declared.pair_outcome.Outcome.{Outcome}
use Rattle.zset_core.specs.declared.row_edits.Edits.{Edits}
use Rattle.zset_core.specs.Semantics.{counted, put_one, outcome_of}
use Rattle.sorted_sets.specs.MembersWithStagedScores.{current_score, staged_score, members_by, names_at}
use Rattle.sorted_sets.proofs.Outlines.{outline_same, before, before_grown}
use Rattle.sorted_sets.proofs.Staging.{members_same}
use Rattle.sorted_sets.proofs.Bags.{NeedsAtMost-noted, Notes-same, Turns-between}
use Rattle.sorted_sets.proofs.PairSteps.{counted_one}
use Rattle.sorted_sets.specs.NamesTouchedByPlan.{mention}
use Rattle.sorted_sets.proofs.Gathered.{IsLed-none, moved_between, noted_none}
use Rattle.sorted_sets.proofs.Naming.{moved_mention}
use Rattle.sorted_sets.proofs.set.plan.plan_score.Goals as goal

-- the edits of a pair, by what became of it
noted_as : {A : Type 0} {x y : Outcome} {old new : Members} {before after : Edits A} → x ≡ y → Notes (counted true x) old new before after → Notes (counted true y) old new before after
noted_as {A} {x} {y} {old} {new} {before} {after} is noted = subst (λ (o : Outcome). Notes (counted true o) old new before after) is noted

pub returns-in-Ok-clause-ok : goal.returns-in-Ok-clause-ok
returns-in-Ok-clause-ok g c =
    let old = c.args.members.now.entries in
    let same = members_same old c.requires in
    let z : ℤ = to_z w64 (of_z w64 c.args.score) in
    let left = c.in-Ok.ensures.staged ∙ ap (λ (m : Members). put_one c.args.flags m c.args.member.now z) same
    ∙ ap (put_one c.args.flags (members_by current_score old) c.args.member.now) (to_z-of_z c.ranges.score) in
    let new = c.stage_one.new.members.entries in
    let written = counted true (outcome_of c.args.flags (map.get (members_by staged_score old) c.args.member.now) z) in
    let noted = Notes-same written (members_by staged_score old) (members_by staged_score new) c.new-draft.result.edits c.stage_one.new.self.edits c.settle_moved.new.self.edits c.settle_moved.ensures.edits (noted_as c.in-Ok.ensures.outcome c.in-Ok.ensures.edits) in
    record {
      kept = c.settle_moved.ensures.kept ∙ c.stage_one.ensures.kept ∙ c.new-draft.ensures.kept ∙ c.len.ensures.len;
      grows = c.stage_one.ensures.grows;
      waiting = c.settle_moved.ensures.waiting;
      members_are = left;
      edits_are = Turns-between written (members_by staged_score old) (members_by current_score old) (members_by staged_score new) (members_by staged_score new) c.new-draft.result.edits c.settle_moved.new.self.edits same refl c.new-draft.ensures.coming c.new-draft.ensures.leaving noted;
      removed_are = tt;
      few_rows = NeedsAtMost-noted written most_edits (members_by staged_score old) (members_by staged_score new) c.new-draft.result.edits _ c.new-draft.ensures.coming c.new-draft.ensures.leaving
          (omega (arith, counted_one true (outcome_of c.args.flags (map.get (members_by staged_score old) c.args.member.now) z))) noted;
      outline_is = outline_same c.outline_staged-outline.result (before new c.settle_moved.new.self.kept) (members_by current_score old) (members_by staged_score new) (put_one c.args.flags (members_by current_score old) c.args.member.now c.args.score)
          (before_grown old new c.settle_moved.new.self.kept (c.settle_moved.ensures.kept ∙ c.stage_one.ensures.kept ∙ c.new-draft.ensures.kept ∙ c.len.ensures.len) c.stage_one.ensures.grows) left c.outline_staged-outline.ensures;
      reply_is = refl;
    }

pub returns-in-Ok-clause-rows : goal.returns-in-Ok-clause-rows
returns-in-Ok-clause-rows g c =
    let old = c.args.members.now.entries in
    let new = c.stage_one.new.members.entries in
    let z : ℤ = to_z w64 (of_z w64 c.args.score) in
    let written = counted true (outcome_of c.args.flags (map.get (members_by staged_score old) c.args.member.now) z) in
    let same : written ≡ counted true (outcome_of c.args.flags (map.get (members_by current_score old) c.args.member.now) c.args.score) =
    ap (λ (m : Members). counted true (outcome_of c.args.flags (map.get m c.args.member.now) z)) (members_same old c.requires)
    ∙ ap (λ s. counted true (outcome_of c.args.flags (map.get (members_by current_score old) c.args.member.now) s)) (to_z-of_z c.ranges.score) in
    NeedsAtMost-noted written _ (members_by staged_score old) (members_by staged_score new) c.new-draft.result.edits _ c.new-draft.ensures.coming c.new-draft.ensures.leaving
    (omega (arith, same))
    (Notes-same written (members_by staged_score old) (members_by staged_score new) c.new-draft.result.edits c.stage_one.new.self.edits c.settle_moved.new.self.edits c.settle_moved.ensures.edits (noted_as c.in-Ok.ensures.outcome c.in-Ok.ensures.edits))

pub returns-in-Ok-clause-moved : goal.returns-in-Ok-clause-moved
returns-in-Ok-clause-moved g c =
    let old = c.args.members.now.entries in
    let new = c.stage_one.new.members.entries in
    let f = c.args.flags in
    let q = c.args.member.now in
    let same = members_same old c.requires in
    let z : ℤ = to_z w64 (of_z w64 c.args.score) in
    let was : Members = members_by current_score old in
    let is : Members = put_one f was q c.args.score in
    let left = c.in-Ok.ensures.staged ∙ ap (λ (m : Members). put_one f m q z) same ∙ ap (put_one f was q) (to_z-of_z c.ranges.score) in
    let first = before_grown old new c.stage_one.new.self.kept (c.stage_one.ensures.kept ∙ c.new-draft.ensures.kept ∙ c.len.ensures.len) c.stage_one.ensures.grows in
    let named = c.in-Ok.ensures.named ∙ ap (λ (l : List ℕ). names_at old l ++ mention f (members_by staged_score old) q) (noted_none c.new-draft.result c.new-draft.ensures.leading c.new-draft.ensures.touched) ∙ ap (λ (m : Members). mention f m q) same in
    record {
      counted = c.settle_moved.ensures.counted;
      names_are = c.settle_moved.ensures.names ∙ moved_between (before new c.stage_one.new.self.kept) was (members_by staged_score new) is _ (mention f was q) first left named ∙ moved_mention f was q c.args.score;
    }

pub stage_one-requires-clause-led : goal.stage_one-requires-clause-led
stage_one-requires-clause-led g c = IsLed-none c.new-draft.result (length c.args.members.now.entries) (c.new-draft.ensures.kept ∙ c.len.ensures.len) c.new-draft.ensures.leading
