use Rattle.std.proofs.Common.{sym, ap, ◌∙◌}
use Rattle.std.specs.BinaryHeap.{heap_items}
use Rattle.std.specs.Ordering.{is_lt}
use Rattle.sorted_sets.proofs.LeastPairs.{over_greatest}
use Rattle.sorted_sets.proofs.query.least_pairs.is_below_greatest.Goals as goal

pub returns-in-Some-clause-over : goal.returns-in-Some-clause-over
returns-in-Some-clause-over g c passes =
    over_greatest c.args.pair c.in-Some.greatest.now (heap_items c.args.least.now) (sym (c.is_lt.ensures ∙ ap is_lt c.cmp.ensures) ∙ passes) (c.in-Some.ensures.greatest c.requires)
