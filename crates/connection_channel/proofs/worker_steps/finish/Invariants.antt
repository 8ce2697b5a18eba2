use Rattle.std.proofs.Common.{◌≡◌}
use Rattle.connection_channel.proofs.worker_steps.finish.Given as goal

abbrev pub invariant-loop : goal.invariant-loop
invariant-loop g l = g.H.Handler.keeps l.fn.handler l.handler × (g.H.Handler.handled l.handler ≡ g.H.Handler.handled l.fn.handler)
