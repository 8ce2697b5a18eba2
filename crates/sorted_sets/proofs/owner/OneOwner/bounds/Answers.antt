use Rattle.std.proofs.Common.{subst}
use Rattle.sorted_sets.specs.WorldWithinRequestLimits.{IsBoundedOwner}
use Rattle.sorted_sets.proofs.owner.OneOwner.bounds.Goals as goal

pub returns : goal.returns
returns g c = (let shown : IsBoundedOwner c.args.self.now = subst IsBoundedOwner c.self.view_is c.self.invariant.1 in shown).world
