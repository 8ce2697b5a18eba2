use Rattle.std.proofs.Common.{◌∙◌, ap}
use Rattle.resp_wire.specs.Response.{response_of}
use Rattle.zset_commands.specs.MeaningOfForm.{meaning_of, question_of, change_of, word_at}
use Rattle.sorted_sets.proofs.EmptySet.{altered_of, asked_of}
use Rattle.sorted_sets.proofs.query.missing_key_reply.reply_without_set.Goals as goal

pub returns-in-Asks : goal.returns-in-Asks
returns-in-Asks g c =
    let words = c.args.command.now.words in
    asked_of c.args.command.now.meaning (word_at words 1) (question_of words c.in-Asks.question) (response_of c.answer_of_none.result) (c.form.ensures.meaning ∙ ap (meaning_of words) c.in-Asks.is) (c.answer_of_none.ensures words)

pub returns-in-Changes : goal.returns-in-Changes
returns-in-Changes g c =
    let words = c.args.command.now.words in
    altered_of c.args.command.now.meaning (word_at words 1) (change_of words c.in-Changes.change) (response_of c.change_of_none.result) (c.form.ensures.meaning ∙ ap (meaning_of words) c.in-Changes.is) c.requires (c.change_of_none.ensures words)
