use Rattle.std.proofs.Common.{◌∙◌}
use Rattle.sorted_sets.proofs.OwnerViews.{count_shown}
use Rattle.sorted_sets.proofs.owner.OneOwner.key_count.Goals as goal

pub returns : goal.returns
returns g c = c.len.ensures.len ∙ count_shown c.self.inside.sets.entries c.self.inside.asked c.args.self.now c.self.view_is c.self.invariant.0 c.requires c.len.ensures.ordered
