use Rattle.std.proofs.Common.{◌+◌, sym, ◌∙◌, le-add_right}
use Rattle.std.proofs.lemmas.List.{get_or_default}
use Rattle.column_rows.proofs.merge_at_gap.find_waiting.Goals as goal

pub bounds-rows-at : goal.bounds-rows-at
bounds-rows-at g c = c.if-at-rows.true

pub returns-then-is_same-clause-low : goal.returns-then-is_same-clause-low
returns-then-is_same-clause-low g c = le-add_right c.args.tail.from c.match-tail.before

pub returns-then-is_same-clause-within : goal.returns-then-is_same-clause-within
returns-then-is_same-clause-within g c = rw (← c.list-rows.ensures) c.if-at-rows.true

pub returns-then-is_same-clause-here : goal.returns-then-is_same-clause-here
returns-then-is_same-clause-here g c d =
    let x = c.index-rows-at.result in
    rw (← c.list-rows.ensures) (get_or_default c.list-rows.result.now (c.args.tail.from + c.match-tail.before) d x c.if-at-rows.true ∙ sym c.index-rows-at.is ∙ c.is_same.ensures.0 c.if-is_same.true)

pub returns-else-at-rows-clause-low : goal.returns-else-at-rows-clause-low
returns-else-at-rows-clause-low g c = tt

pub returns-else-at-rows-clause-within : goal.returns-else-at-rows-clause-within
returns-else-at-rows-clause-within g c = tt

pub returns-else-at-rows-clause-here : goal.returns-else-at-rows-clause-here
returns-else-at-rows-clause-here g c = tt
