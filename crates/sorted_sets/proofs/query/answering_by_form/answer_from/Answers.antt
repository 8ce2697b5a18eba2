use Rattle.std.proofs.Common.{◌⊎◌, ap, inr}
use Rattle.score_bounds.specs.RangesAndCuts.{is_in}
use Rattle.resp_wire.specs.Response.{response_of}
use Rattle.ripple_column.specs.Content.{IsUnchanged}
use Rattle.sorted_sets.specs.CommandEffectsOnColumn.{Reads}
use Rattle.zset_commands.specs.MeaningOfForm.{question_of}
use Rattle.sorted_sets.specs.MembersWithStagedScores.{current_score, members_by}
use Rattle.sorted_sets.proofs.RangeRows.{Holds-same, IfOk-all, OnErr-any, OnOk-any, Reads-count, Reads-list, SameBag-range, count_reply, list_reply}
use Rattle.sorted_sets.proofs.query.answering_by_form.answer_from.Goals as goal

pub returns-in_ok-rows-in-Count-clause-reply : goal.returns-in_ok-rows-in-Count-clause-reply
returns-in_ok-rows-in-Count-clause-reply g c =
    let m = members_by current_score c.args.members.now.entries in
    let words = c.args.words.now in
    let range = c.in-Count.range in
    let column = c.select.new.self in
    let holds = Holds-same c.args.column.now column m c.in_ok-rows-in-Count.ensures.content c.requires.content in
    let bag = SameBag-range column m range c.in_ok-rows-in-Count.rows holds c.in_ok-rows-in-Count.ensures.rows in
    count_reply m (question_of words c.args.question.now) range (response_of c.count_rows.result)
    (ap (question_of words) c.in-Count.is) (c.count_rows.ensures (is_in range) m bag)

pub returns-in_ok-rows-in-ListRange-clause-reply : goal.returns-in_ok-rows-in-ListRange-clause-reply
returns-in_ok-rows-in-ListRange-clause-reply g c =
    let m = members_by current_score c.args.members.now.entries in
    let words = c.args.words.now in
    let range = c.in-ListRange.range in
    let column = c.select_listed.new.column in
    let holds = Holds-same c.args.column.now column m c.in_ok-rows-in-ListRange.ensures.content c.requires.content in
    let bag = SameBag-range column m range c.in_ok-rows-in-ListRange.rows holds c.in_ok-rows-in-ListRange.ensures.rows in
    IfOk-all c.list_rows.result (λ reply told. list_reply m (question_of words c.args.question.now) range c.in-ListRange.with_scores c.in-ListRange.limit (response_of reply)
    (ap (question_of words) c.in-ListRange.is) (told (is_in range) m bag)) c.list_rows.ensures

pub returns-in_ok-rows-in-Count-clause-column : goal.returns-in_ok-rows-in-Count-clause-column
returns-in_ok-rows-in-Count-clause-column g c =
    let words = c.args.words.now in
    let range = c.in-Count.range in
    Reads-count c.args.column.now c.select.new.self (question_of words c.args.question.now) range (ap (question_of words) c.in-Count.is) c.in_ok-rows-in-Count.ensures.selects

pub returns-in_ok-rows-in-ListRange-clause-column : goal.returns-in_ok-rows-in-ListRange-clause-column
returns-in_ok-rows-in-ListRange-clause-column g c =
    let words = c.args.words.now in
    let old = c.args.column.now in
    let new = c.select_listed.new.column in
    let reads = Reads-list old new (question_of words c.args.question.now) c.in-ListRange.range c.in-ListRange.with_scores c.in-ListRange.limit (ap (question_of words) c.in-ListRange.is)
    c.in_ok-rows-in-ListRange.ensures.listed in
    OnOk-any c.list_rows.result (Reads (question_of words c.args.question.now) old new) reads

pub returns-in_ok-rows-in-ListRange-clause-refused : goal.returns-in_ok-rows-in-ListRange-clause-refused
returns-in_ok-rows-in-ListRange-clause-refused g c =
    let words = c.args.words.now in
    let old = c.args.column.now in
    let new = c.select_listed.new.column in
    let reads = Reads-list old new (question_of words c.args.question.now) c.in-ListRange.range c.in-ListRange.with_scores c.in-ListRange.limit (ap (question_of words) c.in-ListRange.is)
    c.in_ok-rows-in-ListRange.ensures.listed in
    OnErr-any c.list_rows.result (IsUnchanged old new ⊎ Reads (question_of words c.args.question.now) old new) (inr reads)
