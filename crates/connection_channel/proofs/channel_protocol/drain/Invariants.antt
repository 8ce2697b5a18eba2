use Rattle.std.proofs.Common.{◌≡◌}
use Rattle.std.specs.Prelude.{vec_capacity}
use Rattle.crossbeam_channel.specs.Claims.{view, IsSeatAt}
use Rattle.crossbeam_channel.specs.Ends.{receives_on}
use Rattle.connection_channel.proofs.Steps.{Draining}
use Rattle.connection_channel.proofs.channel_protocol.drain.Given as goal

abbrev pub invariant-loop : goal.invariant-loop
invariant-loop g l = IsSeatAt (receives_on l.receiver) l.pass
    × Draining (view l.fn.pass).sent (view l.fn.pass).stops (view l.fn.pass).taken l.fn.left.items (view l.pass) l.left.items
    × (vec_capacity l.left ≡ vec_capacity l.fn.left)
