use Rattle.std.proofs.Common.{arith, rules}
use Rattle.std.proofs.lemmas.List.Sorted.{length_permutation}
use Rattle.table_lifetime.specs.ClosingAudit.{no_pass}
use Rattle.table_lifetime.proofs.PassOrder.{one_more_in_order, not_numbered, are_numbered}
use Rattle.table_lifetime.proofs.closing_audit.sort_passes_by_number.sort_by_number.Goals as goal

pub loop-number-preserved : goal.loop-number-preserved
loop-number-preserved g c =
    let now = c.loop-number.passes.items in
    let len = length_permutation c.args.passes.now.items now c.loop-number.invariant.same in
    let t = one_more_in_order c.args.passes.now.items now c.swap.new.self.items c.loop-number.number c.in-Some.index c.loop-number.invariant.same
    (omega (arith, len, c.loop-number-test.true, c.len-number-end.ensures, c.args.passes.now.ok)) c.in-Some.ensures.0 c.in-Some.ensures.1 c.loop-number.invariant.order c.swap.ensures.items
    (c.swap.ensures.by_index.0 no_pass) (λ j a b. c.swap.ensures.by_index.2 j no_pass a b) in
    record { same = t.0; order = t.1 }

pub returns-in-None-clause-numbered : goal.returns-in-None-clause-numbered
returns-in-None-clause-numbered g c = (λ f. absurd (search rules), λ h. absurd (not_numbered c.args.passes.now.items c.loop-number.passes.items c.loop-number.number c.loop-number.invariant.same (omega (arith, c.loop-number-test.true, c.len-number-end.ensures, c.args.passes.now.ok)) c.in-None.ensures h))

pub returns-clause-numbered : goal.returns-clause-numbered
returns-clause-numbered g c = (λ t. are_numbered c.args.passes.now.items c.loop-number.passes.items c.loop-number.invariant.same (λ j less. c.loop-number.invariant.order j (omega (arith, c.loop-number-test.false, c.len-number-end.ensures, c.args.passes.now.ok))), λ h. search rules)
