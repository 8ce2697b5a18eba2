use Rattle.std.proofs.Common.{◌≡◌, ◌<◌, ◌-◌, ◌∷◌, [], true, ℕ, ℤ, List, length, drop, take, Option, Some, Result, OnErr, pos, SFits, w64, to_z-of_z, length-drop, refl, sym, ap, subst, ◌∙◌, arith, rules}
use Rattle.std.proofs.lemmas.List.{get_or_read, take_all}
use Rattle.std.proofs.lemmas.Result.{err_from_is_err_and}
use Rattle.std.specs.FinMap as map
use Rattle.resp_wire.specs.Response.{Integer, Response}
use Rattle.ripple_column.specs.Content.{ColumnState}
use Rattle.zset_commands.specs.AbstractCommand.{range_of_change}
use Rattle.sorted_sets.specs.SetViewAndInvariant.{IsReadyForPlan}
use Rattle.sorted_sets.specs.CommandEffectsOnColumn.{MakesReady, MakesRoom, increase_edits}
use Rattle.zset_core.specs.Semantics.{changed_by, count_all, increase, put_all, remove_all}
use Rattle.zset_commands.specs.MeaningOfForm.{IsWholeChange, change_of, scored, word_at}
use Rattle.sorted_sets.specs.MembersWithStagedScores.{Entry, current_score, rows_by, members_by, ScoresAreSettled, IsBack}
use Rattle.zset_commands.specs.RequestLimits.{names_of_change}
use Rattle.zset_core.specs.SortedSet.{Members, names_of}
use Rattle.sorted_sets.specs.Plan.{Moves, MovesTo, Plans, Prepares, range_of}
use Rattle.zset_commands.specs.declared.parsed_arguments.ChangeForm.{ChangeForm}
use Rattle.zset_commands.specs.declared.parsed_arguments.ChangeForm.TheVariants.{Increase}
use Rattle.zset_commands.specs.declared.flags.Flags.{Flags}
use Rattle.sorted_sets.specs.declared.set.plan.Plan.TheVariants.{Scores, Removal}
use Rattle.sorted_sets.specs.declared.set.plan.Plan.{Plan}
use Rattle.sorted_sets.specs.declared.set.plan.ScoresPlan.{ScoresPlan}
use Rattle.sorted_sets.proofs.Planning.{Prepares-some, room_fits}
use Rattle.sorted_sets.proofs.set.plan.make_plan.Goals as goal

to_end : (words : List (List ℕ)) (first : ℕ) → take (length words - first) (drop first words) ≡ drop first words
to_end words first = take_all (length words - first) (drop first words) (omega (arith, length-drop first words))

module _ {A : Type 0} where
  -- what is told of a change's own form is told of it
  ready : {T E : Type 0} (words : List (List ℕ)) (form form' : ChangeForm A) (m : Members) (r : Result T E) (old new : ColumnState) → form ≡ form' → MakesReady (change_of words form') m r old new → MakesReady (change_of words form) m r old new
  ready words form form' m r old new is h = subst (λ (f : ChangeForm A). MakesReady (change_of words f) m r old new) (sym is) h

  -- the same of what a plan moves, once the column has room
  moves : (words : List (List ℕ)) (form form' : ChangeForm A) (old new last : List Entry) (plan kept : Plan A) (m : Members) → form ≡ form' → last ≡ new → kept ≡ plan
      → Moves old new plan (names_of_change (change_of words form')) (changed_by m (change_of words form'))
      → Moves old last kept (names_of_change (change_of words form)) (changed_by m (change_of words form))
  moves words form form' old new last plan kept m is same stays h =
      subst (λ (f : ChangeForm A). Moves old last kept (names_of_change (change_of words f)) (changed_by m (change_of words f))) (sym is)
      (subst (λ (p : Plan A). Moves old last p (names_of_change (change_of words form')) (changed_by m (change_of words form'))) (sym stays)
      (subst (λ (l : List Entry). Moves old l plan (names_of_change (change_of words form')) (changed_by m (change_of words form'))) (sym same) h))

  plans : (words : List (List ℕ)) (form form' : ChangeForm A) (old new last : List Entry) (plan kept : Plan A) (m : Members) → form ≡ form' → last ≡ new → kept ≡ plan
      → Plans old new plan (changed_by m (change_of words form')) → Plans old last kept (changed_by m (change_of words form))
  plans words form form' old new last plan kept m is same stays h =
      subst (λ (f : ChangeForm A). Plans old last kept (changed_by m (change_of words f))) (sym is)
      (subst (λ (p : Plan A). Plans old last p (changed_by m (change_of words form'))) (sym stays)
      (subst (λ (l : List Entry). Plans old l plan (changed_by m (change_of words form'))) (sym same) h))

  within : (words : List (List ℕ)) (form : ChangeForm A) (flags : Flags) (given : ℤ) (member : ℕ) → form ≡ Increase flags given member → IsWholeChange words form → member < length words
  within words form flags given member is whole = (subst (IsWholeChange words) is whole).1

  -- the entries are what they were once a plan found no room
  back : (old new last : List Entry) (plan : ScoresPlan A) (o : Option (Members × Response)) → Plans old new (Scores plan) o → rows_by current_score last ≡ take plan.draft.kept (rows_by current_score new) → ScoresAreSettled last → IsBack old last
  back old new last plan o h is settled =
      let p = (Prepares-some old new (Scores plan) o h).1 in
      record { same = is ∙ ap (λ (n : ℕ). take n (rows_by current_score new)) p.kept ∙ p.grows.front; settled = settled }

  -- what a plan is ready for, and its range, once it is kept
  ready_kept : (column : ColumnState) (plan kept : Plan A) → kept ≡ plan → IsReadyForPlan column plan → IsReadyForPlan column kept
  ready_kept column plan kept stays h = subst (λ (p : Plan A). IsReadyForPlan column p) (sym stays) h

  range_kept : (words : List (List ℕ)) (form form' : ChangeForm A) (plan kept : Plan A) → form ≡ form' → kept ≡ plan → range_of plan ≡ range_of_change (change_of words form') → range_of kept ≡ range_of_change (change_of words form)
  range_kept words form form' plan kept is stays h =
      ap (λ (p : Plan A). range_of p) stays ∙ h ∙ sym (ap (λ (f : ChangeForm A). range_of_change (change_of words f)) is)

pub returns-in_err-make_room-in-Add-clause-column : goal.returns-in_err-make_room-in-Add-clause-column
returns-in_err-make_room-in-Add-clause-column g c =
    let words = c.args.words.now in
    let m = members_by current_score c.args.members.now.entries in
    let room = room_fits c.args.column.now c.make_room.new.column (Scores c.in_ok-plan-in-Add.plan) _ c.in_ok-plan-in-Add.ensures.rows c.make_room.ensures.column in
    ready words c.args.change.now _ m _ c.args.column.now c.make_room.new.column c.in-Add.is
    (subst (λ (ss : List ℤ). MakesRoom (count_all c.in-Add.flags true m (scored ss (drop c.in-Add.first words))) c.args.column.now c.make_room.new.column) c.as_slice.ensures.value
    (subst (λ (ws : List (List ℕ)). MakesRoom (count_all c.in-Add.flags true m (scored c.as_slice.result.now ws)) c.args.column.now c.make_room.new.column) (to_end words c.in-Add.first) room))

pub returns-in_ok-make_room-in-Add-clause-column : goal.returns-in_ok-make_room-in-Add-clause-column
returns-in_ok-make_room-in-Add-clause-column g c =
    let words = c.args.words.now in
    let m = members_by current_score c.args.members.now.entries in
    let room = room_fits c.args.column.now c.make_room.new.column (Scores c.in_ok-plan-in-Add.plan) _ c.in_ok-plan-in-Add.ensures.rows c.make_room.ensures.column in
    ready words c.args.change.now _ m _ c.args.column.now c.make_room.new.column c.in-Add.is
    (subst (λ (ss : List ℤ). MakesRoom (count_all c.in-Add.flags true m (scored ss (drop c.in-Add.first words))) c.args.column.now c.make_room.new.column) c.as_slice.ensures.value
    (subst (λ (ws : List (List ℕ)). MakesRoom (count_all c.in-Add.flags true m (scored c.as_slice.result.now ws)) c.args.column.now c.make_room.new.column) (to_end words c.in-Add.first) room))

pub returns-in_ok-make_room-in-Add-clause-moved : goal.returns-in_ok-make_room-in-Add-clause-moved
returns-in_ok-make_room-in-Add-clause-moved g c =
    let es = c.args.members.now.entries in
    let words = c.args.words.now in
    let m = members_by current_score es in
    moves words c.args.change.now _ es c.plan_add.new.members.entries c.make_room.new.members.entries (Scores c.in_ok-plan-in-Add.plan) c.in_ok-make_room-in-Add.field-0 m c.in-Add.is (ap (λ members. members.entries) c.in_ok-make_room-in-Add.ensures.ok.1) c.in_ok-make_room-in-Add.ensures.ok.0
    (subst (λ (ss : List ℤ). MovesTo es c.plan_add.new.members.entries (Scores c.in_ok-plan-in-Add.plan) (names_of (scored ss (drop c.in-Add.first words))) (put_all c.in-Add.flags m (scored ss (drop c.in-Add.first words)))) c.as_slice.ensures.value
    (subst (λ (ws : List (List ℕ)). MovesTo es c.plan_add.new.members.entries (Scores c.in_ok-plan-in-Add.plan) (names_of (scored c.as_slice.result.now ws)) (put_all c.in-Add.flags m (scored c.as_slice.result.now ws))) (to_end words c.in-Add.first) c.in_ok-plan-in-Add.ensures.moved))

pub returns-in_ok-make_room-in-Add-clause-ok : goal.returns-in_ok-make_room-in-Add-clause-ok
returns-in_ok-make_room-in-Add-clause-ok g c =
    let es = c.args.members.now.entries in
    let words = c.args.words.now in
    let m = members_by current_score es in
    plans words c.args.change.now _ es c.plan_add.new.members.entries c.make_room.new.members.entries (Scores c.in_ok-plan-in-Add.plan) c.in_ok-make_room-in-Add.field-0 m c.in-Add.is (ap (λ members. members.entries) c.in_ok-make_room-in-Add.ensures.ok.1) c.in_ok-make_room-in-Add.ensures.ok.0
    (subst (λ (ss : List ℤ). Prepares es c.plan_add.new.members.entries (Scores c.in_ok-plan-in-Add.plan) (put_all c.in-Add.flags m (scored ss (drop c.in-Add.first words))) (Integer (pos (count_all c.in-Add.flags c.in-Add.changed m (scored ss (drop c.in-Add.first words)))))) c.as_slice.ensures.value
    (subst (λ (ws : List (List ℕ)). Prepares es c.plan_add.new.members.entries (Scores c.in_ok-plan-in-Add.plan) (put_all c.in-Add.flags m (scored c.as_slice.result.now ws)) (Integer (pos (count_all c.in-Add.flags c.in-Add.changed m (scored c.as_slice.result.now ws))))) (to_end words c.in-Add.first) c.in_ok-plan-in-Add.ensures.ok))

pub returns-in_err-make_room-in-Add-clause-err : goal.returns-in_err-make_room-in-Add-clause-err
returns-in_err-make_room-in-Add-clause-err g c =
    let p = err_from_is_err_and c.from_residual-in_err-make_room-in-Add.result c.from_residual-in_err-make_room-in-Add.ensures.1 in
    subst (λ r. OnErr r (IsBack c.args.members.now.entries c.make_room.new.members.entries)) (sym p.1)
    (back c.args.members.now.entries c.plan_add.new.members.entries c.make_room.new.members.entries c.in_ok-plan-in-Add.plan (Some _) c.in_ok-plan-in-Add.ensures.ok c.in_err-make_room-in-Add.ensures.current c.in_err-make_room-in-Add.ensures.settled)

pub make_room-requires-in-Increase-clause-waiting : goal.make_room-requires-in-Increase-clause-waiting
make_room-requires-in-Increase-clause-waiting g c =
    (Prepares-some c.args.members.now.entries c.plan_increase.new.members.entries (Scores c.in_ok-plan-in-Increase.plan) _ c.in_ok-plan-in-Increase.ensures.ok).1.waiting

pub make_room-requires-in-Increase-clause-few : goal.make_room-requires-in-Increase-clause-few
make_room-requires-in-Increase-clause-few g c =
    (Prepares-some c.args.members.now.entries c.plan_increase.new.members.entries (Scores c.in_ok-plan-in-Increase.plan) _ c.in_ok-plan-in-Increase.ensures.ok).1.few_rows

pub returns-in_err-make_room-in-Increase-clause-err : goal.returns-in_err-make_room-in-Increase-clause-err
returns-in_err-make_room-in-Increase-clause-err g c =
    let p = err_from_is_err_and c.from_residual-in_err-make_room-in-Increase.result c.from_residual-in_err-make_room-in-Increase.ensures.1 in
    subst (λ r. OnErr r (IsBack c.args.members.now.entries c.make_room-in-Increase.new.members.entries)) (sym p.1)
    (back c.args.members.now.entries c.plan_increase.new.members.entries c.make_room-in-Increase.new.members.entries c.in_ok-plan-in-Increase.plan _ c.in_ok-plan-in-Increase.ensures.ok c.in_err-make_room-in-Increase.ensures.current c.in_err-make_room-in-Increase.ensures.settled)

pub returns-in_err-make_room-in-Increase-clause-column : goal.returns-in_err-make_room-in-Increase-clause-column
returns-in_err-make_room-in-Increase-clause-column g c =
    let words = c.args.words.now in
    let m = members_by current_score c.args.members.now.entries in
    let fits : SFits w64 c.in-Increase.given = search rules in
    let inside = within words c.args.change.now c.in-Increase.flags c.in-Increase.given c.in-Increase.member c.in-Increase.is c.requires.whole in
    let same : c.as_slice-member.result.now ≡ word_at words c.in-Increase.member = c.as_slice-member.ensures ∙ get_or_read words c.in-Increase.member _ inside c.index-words-member.is [] in
    let room = room_fits c.args.column.now c.make_room-in-Increase.new.column (Scores c.in_ok-plan-in-Increase.plan) _ c.in_ok-plan-in-Increase.ensures.rows c.make_room-in-Increase.ensures.column in
    ready words c.args.change.now _ m _ c.args.column.now c.make_room-in-Increase.new.column c.in-Increase.is
    (subst (λ (q : List ℕ). MakesRoom (increase_edits c.in-Increase.flags m q c.in-Increase.given) c.args.column.now c.make_room-in-Increase.new.column) same
    (subst (λ (z : ℤ). MakesRoom (increase_edits c.in-Increase.flags m c.as_slice-member.result.now z) c.args.column.now c.make_room-in-Increase.new.column) (to_z-of_z fits) room))

pub returns-in_ok-make_room-in-Increase-clause-column : goal.returns-in_ok-make_room-in-Increase-clause-column
returns-in_ok-make_room-in-Increase-clause-column g c =
    let words = c.args.words.now in
    let m = members_by current_score c.args.members.now.entries in
    let fits : SFits w64 c.in-Increase.given = search rules in
    let inside = within words c.args.change.now c.in-Increase.flags c.in-Increase.given c.in-Increase.member c.in-Increase.is c.requires.whole in
    let same : c.as_slice-member.result.now ≡ word_at words c.in-Increase.member = c.as_slice-member.ensures ∙ get_or_read words c.in-Increase.member _ inside c.index-words-member.is [] in
    let room = room_fits c.args.column.now c.make_room-in-Increase.new.column (Scores c.in_ok-plan-in-Increase.plan) _ c.in_ok-plan-in-Increase.ensures.rows c.make_room-in-Increase.ensures.column in
    ready words c.args.change.now _ m _ c.args.column.now c.make_room-in-Increase.new.column c.in-Increase.is
    (subst (λ (q : List ℕ). MakesRoom (increase_edits c.in-Increase.flags m q c.in-Increase.given) c.args.column.now c.make_room-in-Increase.new.column) same
    (subst (λ (z : ℤ). MakesRoom (increase_edits c.in-Increase.flags m c.as_slice-member.result.now z) c.args.column.now c.make_room-in-Increase.new.column) (to_z-of_z fits) room))

pub returns-in_ok-make_room-in-Increase-clause-moved : goal.returns-in_ok-make_room-in-Increase-clause-moved
returns-in_ok-make_room-in-Increase-clause-moved g c =
    let es = c.args.members.now.entries in
    let words = c.args.words.now in
    let m = members_by current_score es in
    let fits : SFits w64 c.in-Increase.given = search rules in
    let inside = within words c.args.change.now c.in-Increase.flags c.in-Increase.given c.in-Increase.member c.in-Increase.is c.requires.whole in
    let same : c.as_slice-member.result.now ≡ word_at words c.in-Increase.member = c.as_slice-member.ensures ∙ get_or_read words c.in-Increase.member _ inside c.index-words-member.is [] in
    moves words c.args.change.now _ es c.plan_increase.new.members.entries c.make_room-in-Increase.new.members.entries (Scores c.in_ok-plan-in-Increase.plan) c.in_ok-make_room-in-Increase.field-0 m c.in-Increase.is (ap (λ members. members.entries) c.in_ok-make_room-in-Increase.ensures.ok.1) c.in_ok-make_room-in-Increase.ensures.ok.0
    (subst (λ (q : List ℕ). Moves es c.plan_increase.new.members.entries (Scores c.in_ok-plan-in-Increase.plan) (q ∷ []) (increase c.in-Increase.flags m q c.in-Increase.given)) same
    (subst (λ (z : ℤ). Moves es c.plan_increase.new.members.entries (Scores c.in_ok-plan-in-Increase.plan) (c.as_slice-member.result.now ∷ []) (increase c.in-Increase.flags m c.as_slice-member.result.now z)) (to_z-of_z fits) c.in_ok-plan-in-Increase.ensures.moved))

pub returns-in_err-make_room_for_removal-in-Remove-clause-column : goal.returns-in_err-make_room_for_removal-in-Remove-clause-column
returns-in_err-make_room_for_removal-in-Remove-clause-column g c =
    let words = c.args.words.now in
    let m = members_by current_score c.args.members.now.entries in
    let room = room_fits c.args.column.now c.make_room_for_removal.new.column (Removal c.in_ok-plan-in-Remove.plan) _ c.in_ok-plan-in-Remove.ensures.rows c.make_room_for_removal.ensures.column in
    ready words c.args.change.now _ m _ c.args.column.now c.make_room_for_removal.new.column c.in-Remove.is
    (subst (λ (names : List (List ℕ)). MakesRoom (map.len m - map.len (remove_all m names)) c.args.column.now c.make_room_for_removal.new.column) c.split_at.ensures.back room)

pub returns-in_ok-make_room_for_removal-in-Remove-clause-column : goal.returns-in_ok-make_room_for_removal-in-Remove-clause-column
returns-in_ok-make_room_for_removal-in-Remove-clause-column g c =
    let words = c.args.words.now in
    let m = members_by current_score c.args.members.now.entries in
    let room = room_fits c.args.column.now c.make_room_for_removal.new.column (Removal c.in_ok-plan-in-Remove.plan) _ c.in_ok-plan-in-Remove.ensures.rows c.make_room_for_removal.ensures.column in
    ready words c.args.change.now _ m _ c.args.column.now c.make_room_for_removal.new.column c.in-Remove.is
    (subst (λ (names : List (List ℕ)). MakesRoom (map.len m - map.len (remove_all m names)) c.args.column.now c.make_room_for_removal.new.column) c.split_at.ensures.back room)

pub returns-in_err-plan-in-Add-clause-content : goal.returns-in_err-plan-in-Add-clause-content
returns-in_err-plan-in-Add-clause-content g c p = refl

pub returns-in_err-make_room-in-Add-clause-content : goal.returns-in_err-make_room-in-Add-clause-content
returns-in_err-make_room-in-Add-clause-content g c = c.make_room.ensures.content

pub returns-in_ok-make_room-in-Add-clause-content : goal.returns-in_ok-make_room-in-Add-clause-content
returns-in_ok-make_room-in-Add-clause-content g c = c.make_room.ensures.content

pub returns-in_ok-make_room-in-Add-clause-ready : goal.returns-in_ok-make_room-in-Add-clause-ready
returns-in_ok-make_room-in-Add-clause-ready g c = ready_kept c.make_room.new.column (Scores c.in_ok-plan-in-Add.plan) c.in_ok-make_room-in-Add.field-0 c.in_ok-make_room-in-Add.ensures.ok.0 c.in_ok-make_room-in-Add.ensures.room

pub returns-in_ok-make_room-in-Add-clause-range : goal.returns-in_ok-make_room-in-Add-clause-range
returns-in_ok-make_room-in-Add-clause-range g c = range_kept c.args.words.now c.args.change.now _ (Scores c.in_ok-plan-in-Add.plan) c.in_ok-make_room-in-Add.field-0 c.in-Add.is c.in_ok-make_room-in-Add.ensures.ok.0 refl

pub returns-in_err-plan-in-Increase-clause-content : goal.returns-in_err-plan-in-Increase-clause-content
returns-in_err-plan-in-Increase-clause-content g c p = refl

pub returns-in_err-make_room-in-Increase-clause-content : goal.returns-in_err-make_room-in-Increase-clause-content
returns-in_err-make_room-in-Increase-clause-content g c = c.make_room-in-Increase.ensures.content

pub returns-in_ok-make_room-in-Increase-clause-content : goal.returns-in_ok-make_room-in-Increase-clause-content
returns-in_ok-make_room-in-Increase-clause-content g c = c.make_room-in-Increase.ensures.content

pub returns-in_ok-make_room-in-Increase-clause-ready : goal.returns-in_ok-make_room-in-Increase-clause-ready
returns-in_ok-make_room-in-Increase-clause-ready g c = ready_kept c.make_room-in-Increase.new.column (Scores c.in_ok-plan-in-Increase.plan) c.in_ok-make_room-in-Increase.field-0 c.in_ok-make_room-in-Increase.ensures.ok.0 c.in_ok-make_room-in-Increase.ensures.room

pub returns-in_ok-make_room-in-Increase-clause-range : goal.returns-in_ok-make_room-in-Increase-clause-range
returns-in_ok-make_room-in-Increase-clause-range g c = range_kept c.args.words.now c.args.change.now _ (Scores c.in_ok-plan-in-Increase.plan) c.in_ok-make_room-in-Increase.field-0 c.in-Increase.is c.in_ok-make_room-in-Increase.ensures.ok.0 refl

pub returns-in_err-plan-in-Remove-clause-content : goal.returns-in_err-plan-in-Remove-clause-content
returns-in_err-plan-in-Remove-clause-content g c p = refl

pub returns-in_err-make_room_for_removal-in-Remove-clause-content : goal.returns-in_err-make_room_for_removal-in-Remove-clause-content
returns-in_err-make_room_for_removal-in-Remove-clause-content g c = c.make_room_for_removal.ensures.content

pub returns-in_ok-make_room_for_removal-in-Remove-clause-content : goal.returns-in_ok-make_room_for_removal-in-Remove-clause-content
returns-in_ok-make_room_for_removal-in-Remove-clause-content g c = c.make_room_for_removal.ensures.content

pub returns-in_ok-make_room_for_removal-in-Remove-clause-ready : goal.returns-in_ok-make_room_for_removal-in-Remove-clause-ready
returns-in_ok-make_room_for_removal-in-Remove-clause-ready g c = ready_kept c.make_room_for_removal.new.column (Removal c.in_ok-plan-in-Remove.plan) c.in_ok-make_room_for_removal-in-Remove.field-0 c.in_ok-make_room_for_removal-in-Remove.ensures.ok c.in_ok-make_room_for_removal-in-Remove.ensures.room

pub returns-in_ok-make_room_for_removal-in-Remove-clause-range : goal.returns-in_ok-make_room_for_removal-in-Remove-clause-range
returns-in_ok-make_room_for_removal-in-Remove-clause-range g c = range_kept c.args.words.now c.args.change.now _ (Removal c.in_ok-plan-in-Remove.plan) c.in_ok-make_room_for_removal-in-Remove.field-0 c.in-Remove.is c.in_ok-make_room_for_removal-in-Remove.ensures.ok refl

pub returns-in_ok-make_room-in-Increase-clause-ok : goal.returns-in_ok-make_room-in-Increase-clause-ok
returns-in_ok-make_room-in-Increase-clause-ok g c =
    let es = c.args.members.now.entries in
    let words = c.args.words.now in
    let m = members_by current_score es in
    let fits : SFits w64 c.in-Increase.given = search rules in
    let inside = within words c.args.change.now c.in-Increase.flags c.in-Increase.given c.in-Increase.member c.in-Increase.is c.requires.whole in
    let same : c.as_slice-member.result.now ≡ word_at words c.in-Increase.member = c.as_slice-member.ensures ∙ get_or_read words c.in-Increase.member _ inside c.index-words-member.is [] in
    plans words c.args.change.now _ es c.plan_increase.new.members.entries c.make_room-in-Increase.new.members.entries (Scores c.in_ok-plan-in-Increase.plan) c.in_ok-make_room-in-Increase.field-0 m c.in-Increase.is (ap (λ members. members.entries) c.in_ok-make_room-in-Increase.ensures.ok.1) c.in_ok-make_room-in-Increase.ensures.ok.0
    (subst (λ (q : List ℕ). Plans es c.plan_increase.new.members.entries (Scores c.in_ok-plan-in-Increase.plan) (increase c.in-Increase.flags m q c.in-Increase.given)) same
    (subst (λ (z : ℤ). Plans es c.plan_increase.new.members.entries (Scores c.in_ok-plan-in-Increase.plan) (increase c.in-Increase.flags m c.as_slice-member.result.now z)) (to_z-of_z fits) c.in_ok-plan-in-Increase.ensures.ok))

pub returns-in_ok-make_room_for_removal-in-Remove-clause-ok : goal.returns-in_ok-make_room_for_removal-in-Remove-clause-ok
returns-in_ok-make_room_for_removal-in-Remove-clause-ok g c =
    let es = c.args.members.now.entries in
    let m = members_by current_score es in
    plans c.args.words.now c.args.change.now _ es es es (Removal c.in_ok-plan-in-Remove.plan) c.in_ok-make_room_for_removal-in-Remove.field-0 m c.in-Remove.is refl c.in_ok-make_room_for_removal-in-Remove.ensures.ok
    (subst (λ (names : List (List ℕ)). Prepares es es (Removal c.in_ok-plan-in-Remove.plan) (remove_all m names) (Integer (pos (map.len m - map.len (remove_all m names))))) c.split_at.ensures.back c.in_ok-plan-in-Remove.ensures.ok)

pub returns-in_ok-make_room_for_removal-in-Remove-clause-moved : goal.returns-in_ok-make_room_for_removal-in-Remove-clause-moved
returns-in_ok-make_room_for_removal-in-Remove-clause-moved g c =
    let es = c.args.members.now.entries in
    let m = members_by current_score es in
    moves c.args.words.now c.args.change.now _ es es es (Removal c.in_ok-plan-in-Remove.plan) c.in_ok-make_room_for_removal-in-Remove.field-0 m c.in-Remove.is refl c.in_ok-make_room_for_removal-in-Remove.ensures.ok
    (subst (λ (names : List (List ℕ)). MovesTo es es (Removal c.in_ok-plan-in-Remove.plan) names (remove_all m names)) c.split_at.ensures.back c.in_ok-plan-in-Remove.ensures.moved)
