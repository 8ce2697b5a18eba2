use Rattle.std.proofs.Common.{sym}
use Rattle.resp_wire.specs.Response.{response_of}
use Rattle.sorted_sets.proofs.OwnerBounds.{run_kept}
use Rattle.sorted_sets.proofs.owner.OneOwner.run.Goals as goal

pub invariant_of-self : goal.invariant_of-self
invariant_of-self g c =
    run_kept c.run_at.result response_of c.self.inside.sets.entries c.run_at.new.sets.entries c.self.inside.asked c.args.self.now c.args.command.now.meaning c.in-Some.key.now
    c.self.view_is c.self.invariant c.requires c.in-Some.ensures.bounded (sym c.in-Some.ensures.key) c.run_at.ensures.ok c.run_at.ensures.err c.run_at.ensures.rest
