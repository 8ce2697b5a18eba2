use Rattle.std.proofs.Common.{◌∙◌, ap, sym, List, ℕ}
use Rattle.zset_commands.specs.AbstractCommand.{Asks}
use Rattle.zset_commands.specs.MeaningOfForm.{meaning_of, question_of, word_at}
use Rattle.sorted_sets.proofs.Planning.{column_shown}
use Rattle.sorted_sets.proofs.ReadySets.{ready_shown, unready}
use Rattle.sorted_sets.proofs.set.ZSet.answer_as_it_stands.Goals as goal

pub returns-in-Asks-clause-ready : goal.returns-in-Asks-clause-ready
returns-in-Asks-clause-ready g c some =
    let words = c.args.command.now.words in
    let same = c.words-words.ensures.words ∙ c.request.ensures.request in
    let is = c.form.ensures.meaning ∙ ap (meaning_of words) c.in-Asks.is ∙ ap (λ (read : List (List ℕ)). Asks (word_at words 1) (question_of read c.in-Asks.question)) (sym same) in
    ready_shown c.self.inside.column c.args.self.now.column c.args.command.now.meaning (word_at words 1) (question_of c.words-words.result.now c.in-Asks.question)
    (column_shown c.self.inside.members.entries c.self.inside.column c.self.inside.prepared c.args.self.now c.self.view_is) is (c.ready_from.ensures.ready some)

pub returns-in-Asks-clause-none : goal.returns-in-Asks-clause-none
returns-in-Asks-clause-none g c =
    let words = c.args.command.now.words in
    let same = c.words-words.ensures.words ∙ c.request.ensures.request in
    let is = c.form.ensures.meaning ∙ ap (meaning_of words) c.in-Asks.is ∙ ap (λ (read : List (List ℕ)). Asks (word_at words 1) (question_of read c.in-Asks.question)) (sym same) in
    unready c.self.inside.column c.args.self.now.column c.args.command.now.meaning (word_at words 1) (question_of c.words-words.result.now c.in-Asks.question)
    (column_shown c.self.inside.members.entries c.self.inside.column c.self.inside.prepared c.args.self.now c.self.view_is) is c.ready_from.result c.args.may_read_many c.ready_from.ensures.none
