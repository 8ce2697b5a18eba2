use Rattle.std.proofs.Common.{◌≡◌, ◌∙◌, List, [], ℕ, refl, sym, ap, subst, count_by, arith}
use Rattle.crack_kernel.specs.RowBag.{Test}
use Rattle.ripple_column.specs.Content.{ColumnState, Holds}
use Rattle.zset_core.specs.SortedSet.{Members, pairs}
use Rattle.zset_core.specs.Semantics.{remove_all, without_range}
use Rattle.sorted_sets.specs.MembersWithStagedScores.{Entry, ScoresAreSettled, IsWaiting, current_score, staged_score, members_by, names_at}
use Rattle.sorted_sets.specs.Plan.{coming_rows, left_by, replaced_rows, touched_by}
use Rattle.zset_core.specs.RowEdits.{TurnsInto}
use Rattle.sorted_sets.specs.declared.set.plan.Plan.{Plan}
use Rattle.sorted_sets.specs.declared.set.plan.Plan.TheVariants.{Removal, RangeRemoval}
use Rattle.sorted_sets.specs.declared.set.plan.RangeRemovalPlan.{RangeRemovalPlan}
use Rattle.sorted_sets.specs.declared.set.plan.RemovalPlan.{RemovalPlan}
use Rattle.sorted_sets.proofs.Staging.{members_same}
use Rattle.sorted_sets.proofs.set.commit.apply_plan.Goals as goal

-- where no score waits the column holds the members as they are
held : (es : List Entry) (column : ColumnState) → ScoresAreSettled es → TurnsInto column (members_by staged_score es) [] [] → Holds column (pairs (members_by current_score es))
held es column settled turns t = omega (arith, turns t, ap (λ (m : Members). count_by t (pairs m)) (members_same es settled))

module _ {A : Type 0} (es : List Entry) (column : ColumnState) (plan : Plan A) (waiting : IsWaiting (touched_by plan) es)
    (turns : TurnsInto column (members_by staged_score es) (coming_rows plan) (replaced_rows plan)) where
  removal_settled : (p : RemovalPlan A) → plan ≡ Removal p → ScoresAreSettled es
  removal_settled p is i = (subst (λ (q : Plan A). IsWaiting (touched_by q) es) is waiting).settled i refl

  removal_holds : (p : RemovalPlan A) → plan ≡ Removal p → Holds column (pairs (members_by current_score es))
  removal_holds p is = held es column (removal_settled p is) (subst (λ (q : Plan A). TurnsInto column (members_by staged_score es) (coming_rows q) (replaced_rows q)) is turns)

  removal_left : (p : RemovalPlan A) → plan ≡ Removal p → remove_all (members_by current_score es) (names_at es p.places.keys) ≡ left_by es plan
  removal_left p is = ap (λ (m : Members). remove_all m (names_at es p.places.keys)) (sym (members_same es (removal_settled p is))) ∙ sym (ap (left_by es) is)

  range_settled : (p : RangeRemovalPlan A) → plan ≡ RangeRemoval p → ScoresAreSettled es
  range_settled p is i = (subst (λ (q : Plan A). IsWaiting (touched_by q) es) is waiting).settled i refl

  range_holds : (p : RangeRemovalPlan A) → plan ≡ RangeRemoval p → Holds column (pairs (members_by current_score es))
  range_holds p is = held es column (range_settled p is) (subst (λ (q : Plan A). TurnsInto column (members_by staged_score es) (coming_rows q) (replaced_rows q)) is turns)

  range_left : (p : RangeRemovalPlan A) → plan ≡ RangeRemoval p → without_range p.leaving.range (members_by current_score es) ≡ left_by es plan
  range_left p is = ap (without_range p.leaving.range) (sym (members_same es (range_settled p is))) ∙ sym (ap (left_by es) is)

pub apply_removal-requires-clause-content : goal.apply_removal-requires-clause-content
apply_removal-requires-clause-content g c = removal_holds c.args.members.now.entries c.args.column.now c.args.plan c.requires.waiting c.requires.turns c.in-Removal.plan c.in-Removal.is

pub returns-in-Removal-clause-members : goal.returns-in-Removal-clause-members
returns-in-Removal-clause-members g c =
    c.apply_removal.ensures.members ∙ removal_left c.args.members.now.entries c.args.column.now c.args.plan c.requires.waiting c.requires.turns c.in-Removal.plan c.in-Removal.is

pub returns-in-Removal-clause-content : goal.returns-in-Removal-clause-content
returns-in-Removal-clause-content g c =
    let left = removal_left c.args.members.now.entries c.args.column.now c.args.plan c.requires.waiting c.requires.turns c.in-Removal.plan c.in-Removal.is in
    λ t. c.apply_removal.ensures.content t ∙ ap (λ (m : Members). count_by t (pairs m)) (c.apply_removal.ensures.members ∙ left)

pub remove_range-requires-clause-content : goal.remove_range-requires-clause-content
remove_range-requires-clause-content g c = range_holds c.args.members.now.entries c.args.column.now c.args.plan c.requires.waiting c.requires.turns c.in-RangeRemoval.plan c.in-RangeRemoval.is

pub returns-in-RangeRemoval-clause-members : goal.returns-in-RangeRemoval-clause-members
returns-in-RangeRemoval-clause-members g c =
    c.remove_range.ensures.members ∙ range_left c.args.members.now.entries c.args.column.now c.args.plan c.requires.waiting c.requires.turns c.in-RangeRemoval.plan c.in-RangeRemoval.is

pub returns-in-RangeRemoval-clause-content : goal.returns-in-RangeRemoval-clause-content
returns-in-RangeRemoval-clause-content g c =
    let left = range_left c.args.members.now.entries c.args.column.now c.args.plan c.requires.waiting c.requires.turns c.in-RangeRemoval.plan c.in-RangeRemoval.is in
    λ t. c.remove_range.ensures.content t ∙ ap (λ (m : Members). count_by t (pairs m)) left
