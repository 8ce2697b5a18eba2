use Rattle.std.proofs.Common.{◌≡◌, sym}
use Rattle.resp_wire.specs.Response.{response_of}
use Rattle.sorted_sets.proofs.OwnerBounds.{commit_kept}
use Rattle.sorted_sets.proofs.owner.OneOwner.commit.Goals as goal

pub invariant_of-self : goal.invariant_of-self
invariant_of-self g c =
    commit_kept c.self.inside.sets.entries c.commit_at.new.sets.entries c.self.inside.asked c.args.self.now c.args.command.now.meaning c.in-Some.key.now
    (λ next. response_of c.commit_at.result ≡ next.1.reply) c.self.view_is c.self.invariant.1 c.requires.prepared c.requires.same c.in-Some.ensures.bounded (sym c.in-Some.ensures.key)
    c.commit_at.ensures.made c.commit_at.ensures.rest
