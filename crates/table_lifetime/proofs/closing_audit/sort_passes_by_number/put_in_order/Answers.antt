use Rattle.std.proofs.Common.{◌≡◌, ◌↔◌, ℕ, IsTrue, arith, rules, subst, length}
use Rattle.table_lifetime.specs.ClosingAudit.{AreNumbered}
use Rattle.table_lifetime.proofs.closing_audit.sort_passes_by_number.put_in_order.Goals as goal

pub returns-then-len-count-clause-numbered : goal.returns-then-len-count-clause-numbered
returns-then-len-count-clause-numbered g c = (λ f. absurd (search rules), λ h. absurd (omega (arith, h.as_many, c.if-len-count.true, c.len.ensures, c.args.passes.now.ok)))

pub returns-clause-numbered : goal.returns-clause-numbered
returns-clause-numbered g c =
    let all : length c.args.passes.now.items ≡ c.args.count = omega (arith, c.if-len-count.false, c.len.ensures, c.args.passes.now.ok) in
    subst (λ (n : ℕ). IsTrue c.sort_by_number.result ↔ AreNumbered c.args.passes.now.items n) all c.sort_by_number.ensures.numbered
