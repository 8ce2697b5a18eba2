use Rattle.std.proofs.Common.{rules, ap}
use Rattle.connection_channel.proofs.Steps.{takes_seldom, learns, told, drained}
use Rattle.connection_channel.proofs.channel_protocol.drain.Goals as goal

pub try_recv_as-requires-clause-rule : goal.try_recv_as-requires-clause-rule
try_recv_as-requires-clause-rule g c = (takes_seldom _ _ (search rules), learns _ _ (ap (λ v. v.parts) c.loop.invariant.1.0) (ap (λ v. v.sends) c.loop.invariant.1.0))

pub loop-preserved-in-Ok-Connection : goal.loop-preserved-in-Ok-Connection
loop-preserved-in-Ok-Connection g c =
    let k = c.in-Ok-Connection in let i = c.loop.invariant in let t = told _ _ k.field-0 k.number k._connection (search rules) (k.ensures.rule.0, k.ensures.rule.1) in
    let d = drained _ _ k.number _ _ _ _ _ c.push_reserved.new.self.items i.1 t.0 (search rules) in (c.try_recv_as.ensures.channel.0, d, search rules)
