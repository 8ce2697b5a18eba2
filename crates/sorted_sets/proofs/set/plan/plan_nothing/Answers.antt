use Rattle.std.proofs.Common.{◌∙◌, sym, subst, refl, List, ℕ}
use Rattle.zset_core.specs.RowEdits.{Turns, most_edits}
use Rattle.zset_core.specs.SortedSet.{Members}
use Rattle.sorted_sets.specs.MembersWithStagedScores.{current_score, members_by, IsWaiting}
use Rattle.sorted_sets.proofs.Outlines.{nothing_outline}
use Rattle.sorted_sets.proofs.Staging.{members_same, Grows-self, IsWaiting-none}
use Rattle.sorted_sets.proofs.Bags.{NeedsAtMost-none, Turns-none}
use Rattle.sorted_sets.proofs.Gathered.{IsCounted-none, moved_none}
use Rattle.sorted_sets.proofs.set.plan.plan_nothing.Goals as goal

pub returns-clause-plan : goal.returns-clause-plan
returns-clause-plan g c =
    let es = c.args.members.now.entries in
    let m = members_by current_score es in
    record {
      kept = c.new.ensures.kept ∙ c.len.ensures.len;
      grows = Grows-self es;
      waiting = subst (λ (ps : List ℕ). IsWaiting ps es) (sym c.new.ensures.touched) (IsWaiting-none es c.requires);
      members_are = members_same es c.requires;
      reply_is = refl;
      edits_are = subst (λ (n : Members). Turns m n c.new.result.edits.coming.items c.new.result.edits.leaving.items) (sym (members_same es c.requires)) (Turns-none m c.new.result.edits c.new.ensures.coming c.new.ensures.leaving);
      removed_are = tt;
      few_rows = NeedsAtMost-none most_edits _ c.new.ensures.coming c.new.ensures.leaving;
      outline_is = nothing_outline (members_by current_score es);
    }

pub returns-clause-rows : goal.returns-clause-rows
returns-clause-rows g c = NeedsAtMost-none 0 _ c.new.ensures.coming c.new.ensures.leaving

pub returns-clause-counted : goal.returns-clause-counted
returns-clause-counted g c = IsCounted-none c.new.result c.args.members.now.entries (c.new.ensures.kept ∙ c.len.ensures.len) c.new.ensures.leading c.new.ensures.moved

pub returns-clause-moved : goal.returns-clause-moved
returns-clause-moved g c = moved_none c.new.result c.new.ensures.leading c.new.ensures.moved
