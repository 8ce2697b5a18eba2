use Rattle.std.proofs.Common.{sym, subst}
use Rattle.score_bounds.specs.declared.ranges_and_cuts.Range.{Range}
use Rattle.column_rows.specs.Content.{NoneIn, has_score_in}
use Rattle.column_rows.proofs.Counts.{count_none}
use Rattle.column_rows.proofs.Spans.{none_in}
use Rattle.column_rows.proofs.pending_lists.PendingList.count_within.Goals as goal

pub returns-then-is_missed_by : goal.returns-then-is_missed_by
returns-then-is_missed_by g c =
    let rows = c.self.inside.rows.items in
    let none = none_in c.self.inside.span c.interval-interval.result.range rows (c.is_missed_by.ensures.0 c.if-is_missed_by.true) c.self.invariant.1 in
    rw (← c.self.view_is) (sym (count_none (has_score_in c.args.range.now) rows (subst (λ (range : Range). NoneIn range rows) c.interval-interval.ensures none)))
