use Rattle.std.proofs.Common.{rules}
use Rattle.connection_channel.proofs.Steps.{takes, told}
use Rattle.connection_channel.proofs.channel_protocol.take_message.Goals as goal

pub recv_as-requires-clause-rule : goal.recv_as-requires-clause-rule
recv_as-requires-clause-rule g c = (takes _ _ c.requires.part, λ items views h at. tt)

pub try_recv_as-requires-clause-rule : goal.try_recv_as-requires-clause-rule
try_recv_as-requires-clause-rule g c = (takes _ _ c.requires.part, λ items views h at. tt)

pub returns-in-Ok-Connection-clause-found : goal.returns-in-Ok-Connection-clause-found
returns-in-Ok-Connection-clause-found g c = let k = c.in-Ok-Connection in told _ _ k.field-0 k.number k.connection (search rules) k.ensures.rule

pub returns-in-Ok-Connection-try_recv_as-clause-found : goal.returns-in-Ok-Connection-try_recv_as-clause-found
returns-in-Ok-Connection-try_recv_as-clause-found g c = let k = c.in-Ok-Connection-try_recv_as in told _ _ k.field-0 k.number k.connection (search rules) k.ensures.rule
