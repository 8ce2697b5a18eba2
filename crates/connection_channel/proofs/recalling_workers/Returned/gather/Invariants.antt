use Rattle.std.proofs.Common.{◌≡◌}
use Rattle.std.specs.Prelude.{vec_capacity}
use Rattle.crossbeam_channel.specs.Claims.{view, IsSeatAt}
use Rattle.crossbeam_channel.specs.Ends.{sends_on}
use Rattle.connection_channel.proofs.Steps.{Gathered}
use Rattle.connection_channel.proofs.recalling_workers.Returned.gather.Given as goal

abbrev pub invariant-loop-child : goal.invariant-loop-child
invariant-loop-child g l = IsSeatAt (sends_on l.sender) l.pass
    × Gathered g.H.Handler.keeps g.H.Handler.handled (λ h. h.promise.handler.value) (view l.fn.pass) (view l.pass) l.yielded l.self.handlers.items l.self.taken.items
    × (vec_capacity l.self.handlers ≡ vec_capacity l.fn.self.handlers)
    × (vec_capacity l.self.taken ≡ vec_capacity l.fn.self.taken)
