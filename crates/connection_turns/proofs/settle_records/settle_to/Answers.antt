use Rattle.std.proofs.Common.{rules, arith}
use Rattle.connection_turns.proofs.settle_records.settle_to.Goals as goal

pub returns-in-Some-clause-rises : goal.returns-in-Some-clause-rises
returns-in-Some-clause-rises g c = search (rules, arith)
