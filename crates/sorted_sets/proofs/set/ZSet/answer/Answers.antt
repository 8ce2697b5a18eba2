use Rattle.std.proofs.Common.{◌≡◌, ◌⊎◌, ◌∙◌, ap, refl, subst, sym, List, ℕ, Option, None, Some, OnErr, OnOk}
use Rattle.ripple_column.specs.Content.{ColumnState, IsUnchanged}
use Rattle.resp_wire.specs.Response.{Response}
use Rattle.zset_commands.specs.AbstractCommand.{Asks, Meaning}
use Rattle.sorted_sets.specs.CommandEffectsOnColumn.{Reads, ReadsFor}
use Rattle.sorted_sets.specs.MembersWithStagedScores.{Entry}
use Rattle.zset_core.specs.Semantics.{answer, step}
use Rattle.sorted_sets.specs.SetAndOwnerViews.{SetView}
use Rattle.sorted_sets.specs.SetViewAndInvariant.{view_of}
use Rattle.zset_core.specs.SortedSet.{Members}
use Rattle.sorted_sets.specs.declared.set.Prepared.{Prepared}
use Rattle.zset_commands.specs.MeaningOfForm.{meaning_of, question_of, word_at}
use Rattle.sorted_sets.proofs.Planning.{IsIdle-of, column_shown, members_idle}
use Rattle.sorted_sets.proofs.RangeRows.{IfOk-all}
use Rattle.sorted_sets.proofs.ReadySets.{ready_once}
use Rattle.sorted_sets.proofs.set.ZSet.answer.Goals as goal

module _ {A : Type 0} where
  -- a set with another column has the members and the change that it had
  members_still : (es : List Entry) (c d : ColumnState) (p : Option (Prepared A)) (v : SetView) → view_of es c p ≡ v → (view_of es d p).members ≡ v.members
  members_still es c d None v is = ap (λ (w : SetView). w.members) is
  members_still es c d (Some q) v is = ap (λ (w : SetView). w.members) is

  next_still : (es : List Entry) (c d : ColumnState) (p : Option (Prepared A)) (v : SetView) → view_of es c p ≡ v → (view_of es d p).next ≡ v.next
  next_still es c d None v is = ap (λ (w : SetView). w.next) is
  next_still es c d (Some q) v is = ap (λ (w : SetView). w.next) is

pub returns-clause-ready : goal.returns-clause-ready
returns-clause-ready g c =
    let words = c.args.command.now.words in
    let same = c.words-words.ensures.words ∙ c.request.ensures.request in
    let is = c.form.ensures.meaning ∙ ap (meaning_of words) c.in-Asks.is ∙ ap (λ (read : List (List ℕ)). Asks (word_at words 1) (question_of read c.in-Asks.question)) (sym same) in
    ready_once c.answer_from.new.column _ c.args.command.now.meaning (word_at words 1) (question_of c.words-words.result.now c.in-Asks.question)
    (column_shown c.self.inside.members.entries c.answer_from.new.column c.self.inside.prepared _ refl) is c.answer_from.result c.answer_from.ensures.ready

pub returns-clause-members : goal.returns-clause-members
returns-clause-members g c = members_still c.self.inside.members.entries c.self.inside.column c.answer_from.new.column c.self.inside.prepared c.args.self.now c.self.view_is

pub returns-clause-idle : goal.returns-clause-idle
returns-clause-idle g c = next_still c.self.inside.members.entries c.self.inside.column c.answer_from.new.column c.self.inside.prepared c.args.self.now c.self.view_is ∙ c.requires.idle

pub returns-clause-reply : goal.returns-clause-reply
returns-clause-reply g c =
    let words = c.args.command.now.words in
    let same = c.words-words.ensures.words ∙ c.request.ensures.request in
    let question = question_of c.words-words.result.now c.in-Asks.question in
    let is = c.form.ensures.meaning ∙ ap (meaning_of words) c.in-Asks.is ∙ ap (λ (read : List (List ℕ)). Asks (word_at words 1) (question_of read c.in-Asks.question)) (sym same) in
    let m = c.args.self.now.members in
    let sets = members_idle c.self.inside.members.entries c.self.inside.column c.self.inside.prepared c.args.self.now c.self.view_is c.requires.idle in
    IfOk-all c.answer_from.result (λ reply told. ap (λ (meaning : Meaning). step m meaning) is
    ∙ ap (λ (r : Response). Some (m, r)) (ap (λ (n : Members). answer n question) (sym sets) ∙ sym told)) c.answer_from.ensures.reply

pub returns-clause-column : goal.returns-clause-column
returns-clause-column g c =
    let words = c.args.command.now.words in
    let same = c.words-words.ensures.words ∙ c.request.ensures.request in
    let question = question_of c.words-words.result.now c.in-Asks.question in
    let is = c.form.ensures.meaning ∙ ap (meaning_of words) c.in-Asks.is ∙ ap (λ (read : List (List ℕ)). Asks (word_at words 1) (question_of read c.in-Asks.question)) (sym same) in
    let old = c.args.self.now.column in
    let new = c.answer_from.new.column in
    let view = view_of c.self.inside.members.entries new c.self.inside.prepared in
    subst (λ (meaning : Meaning). OnOk c.answer_from.result (ReadsFor meaning old view.column)) (sym is)
    (subst (λ (d : ColumnState). OnOk c.answer_from.result (Reads question old d)) (column_shown c.self.inside.members.entries new c.self.inside.prepared view refl)
    (subst (λ (b : ColumnState). OnOk c.answer_from.result (Reads question b new)) (column_shown c.self.inside.members.entries c.self.inside.column c.self.inside.prepared c.args.self.now c.self.view_is) c.answer_from.ensures.column))

pub returns-clause-refused : goal.returns-clause-refused
returns-clause-refused g c =
    let words = c.args.command.now.words in
    let same = c.words-words.ensures.words ∙ c.request.ensures.request in
    let question = question_of c.words-words.result.now c.in-Asks.question in
    let is = c.form.ensures.meaning ∙ ap (meaning_of words) c.in-Asks.is ∙ ap (λ (read : List (List ℕ)). Asks (word_at words 1) (question_of read c.in-Asks.question)) (sym same) in
    let old = c.args.self.now.column in
    let new = c.answer_from.new.column in
    let view = view_of c.self.inside.members.entries new c.self.inside.prepared in
    subst (λ (meaning : Meaning). OnErr c.answer_from.result (IsUnchanged old view.column ⊎ ReadsFor meaning old view.column)) (sym is)
    (subst (λ (d : ColumnState). OnErr c.answer_from.result (IsUnchanged old d ⊎ Reads question old d)) (column_shown c.self.inside.members.entries new c.self.inside.prepared view refl)
    (subst (λ (b : ColumnState). OnErr c.answer_from.result (IsUnchanged b new ⊎ Reads question b new)) (column_shown c.self.inside.members.entries c.self.inside.column c.self.inside.prepared c.args.self.now c.self.view_is) c.answer_from.ensures.refused))

pub answer_from-requires-clause-content : goal.answer_from-requires-clause-content
answer_from-requires-clause-content g c = (IsIdle-of c.self.inside.members.entries c.self.inside.column c.self.inside.prepared c.args.self.now c.self.view_is c.requires.idle c.self.invariant).content
