use Rattle.std.proofs.Common.{◌+◌, ◌<◌, ◌^◌}
use Rattle.connection_channel.proofs.Steps.{Set_up}
use Rattle.connection_channel.proofs.desks.desks_of.Given as goal

abbrev pub invariant-loop-handler : goal.invariant-loop-handler
invariant-loop-handler g l = Set_up (λ d. d.handler) (λ d. g.H.Handler.handled d.handler + d.limit < 2 ^ 64) l.yielded l.desks.items
