use Rattle.connection_channel.proofs.Steps.{sends_stop}
use Rattle.connection_channel.proofs.channel_protocol.send_stop.Goals as goal

pub send_as-requires-clause-rule : goal.send_as-requires-clause-rule
send_as-requires-clause-rule g c = (sends_stop _ _ _, λ items views h at. tt)
