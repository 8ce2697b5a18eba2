use Rattle.std.proofs.Common.{◌≡◌, ◌∙◌, rules}
use Rattle.resp_wire.specs.Response.{response_of}
use Rattle.set_table.proofs.StepLemmas.{becomes_other, hinders, moved, stayed}
use Rattle.set_table.proofs.cell.logged_step.take_step.Goals as goal
use Rattle.set_table.proofs.cell.logged_step.take_step.Goals.{then-outline+in_default, else-outline}

pub returns-in-Err-clause-cause : goal.returns-in-Err-clause-cause
returns-in-Err-clause-cause g c =
    hinders c.args.set.now.members c.args.command.now c.in_ok-outline.outline c.prepare.new.self.next c.in-Err.refusal (search rules) c.in_ok-outline.ensures.ok c.in_ok-outline.ensures.outline c.if-outline.true c.in-Err.ensures.err

pub returns-clause-logged : goal.returns-clause-logged
returns-clause-logged g c =
    let m = c.args.set.now.members in
    let new = c.commit-reply.new.self.members in
    let next = c.prepare.new.self.next in
    let o = c.in_ok-outline.outline in
    elim c.if-outline.branch [
      | then-outline+in_default w ↦ moved m new c.args.command.now.meaning (λ n. response_of c.commit-reply.result ≡ n.reply) o next c.args.share.now _ c.in_ok-outline.ensures.ok c.in_ok-outline.ensures.outline c.commit-reply.ensures.made w.if-outline.true (w.share-is ∙ w.in_default.ensures.share)
      | else-outline w ↦ stayed m new c.args.command.now.meaning (λ n. response_of c.commit-reply.result ≡ n.reply) o next c.args.share.now _ c.in_ok-outline.ensures.ok c.in_ok-outline.ensures.outline c.commit-reply.ensures.made w.if-outline.false w.share-is
    ]

pub append-requires-clause-changes : goal.append-requires-clause-changes
append-requires-clause-changes g c =
    becomes_other c.in_ok-outline.outline c.args.set.now.members c.prepare.new.self.members c.prepare.new.self.next c.in_ok-outline.ensures.outline c.in_ok-outline.ensures.members c.if-outline.true
