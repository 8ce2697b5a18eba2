use Rattle.resp_wire.specs.Response.{response_of}
use Rattle.set_table.proofs.StepLemmas.{read_step}
use Rattle.set_table.proofs.cell.logged_step.read.Goals as goal

pub returns-clause-ok : goal.returns-clause-ok
returns-clause-ok g c = read_step c.args.set.now.members c.args.command.now (response_of c.in_ok-reply.reply) c.none.result c.none.ensures
    c.in_ok-reply.ensures.reply
