use Rattle.std.proofs.Common.{arith}
use Rattle.std.proofs.lemmas.Grind.{common_steps}
use Rattle.resp_wire.proofs.decoder.Decoder.feed.Goals as goal

pub invariant_of-self : goal.invariant_of-self
invariant_of-self g c = grind (arith, common_steps)

pub returns-clause-fed : goal.returns-clause-fed
returns-clause-fed g c = grind (arith, common_steps)
