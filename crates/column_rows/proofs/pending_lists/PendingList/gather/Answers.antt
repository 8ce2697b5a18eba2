use Rattle.std.proofs.Common.{subst, ◌∙◌, arith}
use Rattle.score_bounds.specs.declared.ranges_and_cuts.Range.{Range}
use Rattle.column_rows.specs.Content.{NoneIn}
use Rattle.column_rows.proofs.Counts.{count_moved}
use Rattle.column_rows.proofs.Marking.{covers_moved}
use Rattle.column_rows.proofs.Spans.{none_in}
use Rattle.column_rows.proofs.pending_lists.PendingList.gather.Goals as goal

pub returns-then-is_missed_by-clause-last : goal.returns-then-is_missed_by-clause-last
returns-then-is_missed_by-clause-last g c =
    let rows = c.self.inside.rows.items in
    let none = none_in c.self.inside.span c.interval.result.range rows (c.is_missed_by.ensures.0 c.if-is_missed_by.true) c.self.invariant.1 in
    let in_range : NoneIn c.args.range.now rows = subst (λ (range : Range). NoneIn range rows) (c.interval.ensures) none in
    rw (← c.self.view_is) (record {
      within = omega (arith, c.len.ensures);
      outside = λ k d l h. in_range k d (omega (arith, h, c.len.ensures));
      inside = λ k d l h. absurd (omega (arith, l, h, c.len.ensures));
    })

pub invariant_of-self : goal.invariant_of-self
invariant_of-self g c = (covers_moved _ _ _ c.gather.ensures.rows c.self.invariant.0, count_moved _ _ _ c.gather.ensures.rows ∙ c.self.invariant.1)
