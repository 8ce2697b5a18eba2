use Rattle.sorted_sets.proofs.FirstSets.{taken_of, left_kept}
use Rattle.sorted_sets.proofs.OwnerViews.{idle_rest, world_shown}
use Rattle.std.proofs.Common.{refl}
use Rattle.sorted_sets.proofs.owner.OneOwner.take_first.Goals as goal

pub invariant_of-self : goal.invariant_of-self
invariant_of-self g c =
    left_kept c.pop_first.result c.self.inside.sets.entries c.pop_first.new.sets.entries c.self.inside.asked c.args.self.now c.self.view_is c.self.invariant c.requires c.pop_first.ensures.taken c.pop_first.ensures.gone

pub returns-clause-taken : goal.returns-clause-taken
returns-clause-taken g c =
    taken_of c.pop_first.result c.self.inside.sets.entries c.pop_first.new.sets.entries c.args.self.now.world _
    (world_shown c.self.inside.sets.entries c.self.inside.asked c.args.self.now c.self.view_is) (world_shown c.pop_first.new.sets.entries c.self.inside.asked _ refl)
    (idle_rest c.self.inside.sets.entries c.self.inside.asked c.args.self.now c.self.view_is c.self.invariant.0 c.requires) c.pop_first.ensures.ordered
    c.pop_first.ensures.taken c.pop_first.ensures.gone
