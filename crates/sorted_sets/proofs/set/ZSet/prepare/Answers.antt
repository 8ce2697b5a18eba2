use Rattle.std.proofs.Common.{◌∙◌, ◌≤◌, refl, sym, ap, subst, is_ok, List, ℕ}
use Rattle.std.proofs.lemmas.Result.{err_from_is_err_and}
use Rattle.sorted_sets.specs.CommandEffectsOnColumn.{PreparesColumn}
use Rattle.zset_commands.specs.AbstractCommand.{Asked, Changes, Meaning, range_to_remove}
use Rattle.zset_commands.specs.RequestLimits.{names_in}
use Rattle.zset_commands.specs.MeaningOfForm.{change_of, meaning_of, word_at}
use Rattle.sorted_sets.specs.ChangeCounts.{IsOutline}
use Rattle.sorted_sets.specs.Plan.{Moves, left_by}
use Rattle.zset_core.specs.RowEdits.{most_edits}
use Rattle.sorted_sets.specs.declared.set.change_counts.Outline.{Outline}
use Rattle.sorted_sets.specs.MembersWithStagedScores.{current_score, members_by}
use Rattle.zset_core.specs.Semantics.{changed_by}
use Rattle.sorted_sets.proofs.Planning.{IsIdle-of, IsPlanned-made, members_idle, outline_left, few_added, column_shown, ready_shown, IsSoundSet-back}
use Rattle.sorted_sets.proofs.set.ZSet.prepare.Goals as goal

pub invariant_of-self-2 : goal.invariant_of-self-2
invariant_of-self-2 g c =
    let old = c.self.inside.members.entries in
    let words = c.args.command.now.words in
    let change = change_of c.words-words.result.now c.in-Changes.change in
    let same = c.words-words.ensures.words ∙ c.request.ensures.request in
    let is = c.form.ensures.meaning ∙ ap (meaning_of words) c.in-Changes.is ∙ ap (λ (read : List (List ℕ)). Changes (word_at words 1) (change_of read c.in-Changes.change)) (sym same) in
    let asked = ap (λ (asked : Asked). asked.meaning) (sym c.of-asked.ensures) in
    IsPlanned-made old c.make_plan.new.members.entries c.self.inside.column c.make_plan.new.column c.of-asked.result.value.meaning c.in_ok-plan.plan (changed_by (members_by current_score old) change)
    (IsIdle-of old c.self.inside.column c.self.inside.prepared c.args.self.now c.self.view_is c.requires.idle c.self.invariant)
    c.in_ok-plan.ensures.ok c.in_ok-plan.ensures.content c.in_ok-plan.ensures.ready
    (c.in_ok-plan.ensures.range ∙ ap range_to_remove (sym is ∙ asked))
    (subst (λ (meaning : Meaning). Moves old c.make_plan.new.members.entries c.in_ok-plan.plan (names_in meaning) (changed_by (members_by current_score old) change)) (sym is ∙ asked) c.in_ok-plan.ensures.moved)

pub returns-clause-outline : goal.returns-clause-outline
returns-clause-outline g c =
    let old = c.self.inside.members.entries in
    let left = left_by c.make_plan.new.members.entries c.in_ok-plan.plan in
    subst (λ (outline : Outline). IsOutline outline c.args.self.now.members left) (sym c.outline-outline.ensures)
    (outline_left old c.make_plan.new.members.entries c.in_ok-plan.plan (changed_by (members_by current_score old) (change_of c.words-words.result.now c.in-Changes.change)) c.args.self.now.members
    (members_idle old c.self.inside.column c.self.inside.prepared c.args.self.now c.self.view_is c.requires.idle) c.in_ok-plan.ensures.ok)

pub returns-clause-few : goal.returns-clause-few
returns-clause-few g c =
    subst (λ (outline : Outline). outline.added ≤ most_edits) (sym c.outline-outline.ensures)
    (few_added c.self.inside.members.entries c.make_plan.new.members.entries c.in_ok-plan.plan (changed_by (members_by current_score c.self.inside.members.entries) (change_of c.words-words.result.now c.in-Changes.change)) c.in_ok-plan.ensures.ok)

pub invariant_of-self : goal.invariant_of-self
invariant_of-self g c =
    IsSoundSet-back c.self.inside.members.entries c.make_plan.new.members.entries c.self.inside.column c.make_plan.new.column c.self.inside.prepared c.args.self.now c.self.view_is c.requires.idle c.self.invariant
    c.in_err-plan.ensures.err c.in_err-plan.ensures.content

pub returns-in_err-plan-clause-column : goal.returns-in_err-plan-clause-column
returns-in_err-plan-clause-column g c =
    let es = c.self.inside.members.entries in
    let column = c.self.inside.column in
    let shown = c.args.self.now in
    let words = c.args.command.now.words in
    let change = change_of c.words-words.result.now c.in-Changes.change in
    let same = c.words-words.ensures.words ∙ c.request.ensures.request in
    let is = c.form.ensures.meaning ∙ ap (meaning_of words) c.in-Changes.is ∙ ap (λ (read : List (List ℕ)). Changes (word_at words 1) (change_of read c.in-Changes.change)) (sym same) in
    let p = err_from_is_err_and c.from_residual.result c.from_residual.ensures.1 in
    subst (PreparesColumn c.args.command.now.meaning shown.members c.from_residual.result shown.column) (column_shown c.make_plan.new.members.entries c.make_plan.new.column c.self.inside.prepared _ refl)
    (ready_shown column shown.column c.make_plan.new.column (members_by current_score es) shown.members c.args.command.now.meaning (word_at words 1) change _ c.from_residual.result
    (column_shown es column c.self.inside.prepared shown c.self.view_is) (members_idle es column c.self.inside.prepared shown c.self.view_is c.requires.idle) is (sym (ap is_ok p.1)) c.in_err-plan.ensures.column)

pub returns-clause-column : goal.returns-clause-column
returns-clause-column g c =
    let es = c.self.inside.members.entries in
    let column = c.self.inside.column in
    let shown = c.args.self.now in
    let words = c.args.command.now.words in
    let change = change_of c.words-words.result.now c.in-Changes.change in
    let same = c.words-words.ensures.words ∙ c.request.ensures.request in
    let is = c.form.ensures.meaning ∙ ap (meaning_of words) c.in-Changes.is ∙ ap (λ (read : List (List ℕ)). Changes (word_at words 1) (change_of read c.in-Changes.change)) (sym same) in
    ready_shown column shown.column c.make_plan.new.column (members_by current_score es) shown.members c.args.command.now.meaning (word_at words 1) change _ _
    (column_shown es column c.self.inside.prepared shown c.self.view_is) (members_idle es column c.self.inside.prepared shown c.self.view_is c.requires.idle) is refl c.in_ok-plan.ensures.column
