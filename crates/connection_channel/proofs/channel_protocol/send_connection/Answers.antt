use Rattle.connection_channel.proofs.Steps.{sends_number}
use Rattle.connection_channel.proofs.channel_protocol.send_connection.Goals as goal

pub send_as-requires-clause-rule : goal.send_as-requires-clause-rule
send_as-requires-clause-rule g c = (sends_number _ _ _ _ _ c.requires.number.0 c.requires.number.1, λ items views h at. tt)
