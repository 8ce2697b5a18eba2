use Rattle.std.proofs.Common.{◌∙◌}
use Rattle.sorted_sets.proofs.OwnerViews.{keys_shown}
use Rattle.sorted_sets.proofs.owner.OneOwner.key_at.Goals as goal

pub returns : goal.returns
returns g c = c.nth_key.ensures.key ∙ keys_shown c.self.inside.sets.entries c.self.inside.asked c.args.self.now c.args.index c.self.view_is c.self.invariant.0 c.requires c.nth_key.ensures.ordered
