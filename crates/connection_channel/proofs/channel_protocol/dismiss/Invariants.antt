use Rattle.crossbeam_channel.specs.Claims.{view, IsSeatAt}
use Rattle.crossbeam_channel.specs.Ends.{sends_on}
use Rattle.connection_channel.proofs.Steps.{Dismissing}
use Rattle.connection_channel.proofs.channel_protocol.dismiss.Given as goal

abbrev pub invariant-loop : goal.invariant-loop
invariant-loop g l = IsSeatAt (sends_on l.sender) l.pass
    × Dismissing l.counter l.refused (view l.fn.pass) (view l.pass)
