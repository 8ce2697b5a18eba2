use Rattle.std.proofs.Common.{◌∙◌, ap, arith, false, rules, subst, sym}
use Rattle.connection_channel.specs.ChannelInvariant.{AllBelow, pass_view, with_taken}
use Rattle.connection_channel.proofs.Steps.{rises_more}
use Rattle.hand_over.proofs.worker.work.Goals as goal

pub loop-preserved-in-Connection : goal.loop-preserved-in-Connection
loop-preserved-in-Connection g c =
    let number = c.in-Connection.number in
    let taken = c.loop.taken.items in
    let was = c.loop.invariant.1 in
    let found = c.in-Connection.ensures.found in
    let noted = c.push_reserved.ensures.items in (
      c.next_message.ensures.pass,
      found.0 ∙ ap (λ v. with_taken v number) was ∙ ap (pass_view 1 false 0 0) (sym noted),
      rw noted (rises_more taken number c.loop.invariant.2 (subst (λ v. AllBelow number v.taken) was found.1)),
      search rules,
      omega arith,
      c.push_reserved.ensures.capacity ∙ c.loop.invariant.5,
      omega arith,
    )
