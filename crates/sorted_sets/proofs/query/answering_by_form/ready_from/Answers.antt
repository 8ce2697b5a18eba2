use Rattle.std.proofs.Common.{ap}
use Rattle.score_bounds.specs.RangesAndCuts.{is_in}
use Rattle.resp_wire.specs.Response.{response_of}
use Rattle.zset_commands.specs.MeaningOfForm.{question_of}
use Rattle.sorted_sets.specs.MembersWithStagedScores.{current_score, members_by}
use Rattle.sorted_sets.proofs.RangeRows.{IfOk-all, SameBag-range, count_reply, list_reply}
use Rattle.sorted_sets.proofs.query.answering_by_form.ready_from.Goals as goal

pub returns-in_ok-rows-in-Count-clause-reply : goal.returns-in_ok-rows-in-Count-clause-reply
returns-in_ok-rows-in-Count-clause-reply g c =
    let m = members_by current_score c.args.members.now.entries in
    let words = c.args.words.now in
    let range = c.in-Count.range in
    let bag = SameBag-range c.args.column.now m range c.in_ok-rows-in-Count.rows c.requires.content c.in_ok-rows-in-Count.ensures.rows in
    count_reply m (question_of words c.args.question.now) range (response_of c.count_rows.result)
    (ap (question_of words) c.in-Count.is) (c.count_rows.ensures (is_in range) m bag)

pub returns-else-not-may_read_many-clause-reply : goal.returns-else-not-may_read_many-clause-reply
returns-else-not-may_read_many-clause-reply g c =
    let m = members_by current_score c.args.members.now.entries in
    let words = c.args.words.now in
    let range = c.in-ListRange.range in
    let bag = SameBag-range c.args.column.now m range c.in_ok-rows-in-ListRange.rows c.requires.content c.in_ok-rows-in-ListRange.ensures.rows in
    IfOk-all c.list_rows.result (λ reply told. list_reply m (question_of words c.args.question.now) range c.in-ListRange.with_scores c.in-ListRange.limit (response_of reply)
    (ap (question_of words) c.in-ListRange.is) (told (is_in range) m bag)) c.list_rows.ensures
