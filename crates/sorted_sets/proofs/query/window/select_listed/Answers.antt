use Rattle.std.proofs.Common.{◌∙◌, ℕ, sym, arith}
use Rattle.std.proofs.lemmas.Bool.Decides.{nat_tests}
use Rattle.sorted_sets.specs.CommandEffectsOnColumn.{SelectsWindow}
use Rattle.sorted_sets.proofs.RangeRows.{SelectsListed-selects, SelectsListed-window}
use Rattle.sorted_sets.proofs.query.window.select_listed.Goals as goal

pub returns-then-from-to-clause-listed : goal.returns-then-from-to-clause-listed
returns-then-from-to-clause-listed g c =
    let e = c.in_ok-from.ensures in
    let selects = e.selects in
    let n = c.narrow.ensures in
    let range = c.args.range.now in
    let places : ℕ × ℕ = (c.in_ok-from.from, c.in_ok-from.to) in
    let window : SelectsWindow range c.args.column.now c.narrow.new.self = record {
      answer = (places, (n.answers range places e.answer).0);
      waiting_insertions = rw n.narrows.insertions selects.waiting_insertions;
      waiting_deletions = rw n.narrows.deletions selects.waiting_deletions;
      pivots = λ order. rw n.narrows.pivots (selects.pivots order);
      empty = λ none. absurd (grind (arith, nat_tests, e.empty none, c.in_ok-from.is, c.in_ok-from.was, c.if-from-to.true));
    } in
    SelectsListed-window c.args.limit.now range c.args.column.now c.narrow.new.self (sym c.is_some.ensures ∙ c.if-is_some.true) window

pub returns-else-is_some-clause-listed : goal.returns-else-is_some-clause-listed
returns-else-is_some-clause-listed g c =
    let e = c.in_ok-from.ensures in
    let places : ℕ × ℕ = (c.in_ok-from.from, c.in_ok-from.to) in
    SelectsListed-selects c.args.limit.now c.args.range.now c.args.column.now c.select.new.self (places, e.answer) e.selects
