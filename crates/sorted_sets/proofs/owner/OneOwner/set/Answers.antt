use Rattle.std.proofs.Common.{sym}
use Rattle.sorted_sets.proofs.OwnerViews.{view_some, view_none}
use Rattle.sorted_sets.proofs.owner.OneOwner.set.Goals as goal

pub returns-in-None : goal.returns-in-None
returns-in-None g c = view_none c.self.inside.sets.entries c.self.inside.asked c.args.self.now c.args.key.now c.self.view_is c.self.invariant.0 (sym c.in-None.ensures.value)

pub returns-in-Some : goal.returns-in-Some
returns-in-Some g c = rw c.get-in-Some.ensures (view_some c.self.inside.sets.entries c.self.inside.asked c.args.self.now c.args.key.now c.in-Some.kept.now c.self.view_is c.self.invariant.0 (sym c.in-Some.ensures.value))
