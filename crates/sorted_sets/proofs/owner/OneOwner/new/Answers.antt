use Rattle.std.proofs.Common.{ap, sym, subst, rules}
use Rattle.sorted_sets.specs.OwnerViewAndInvariant.{world_of}
use Rattle.sorted_sets.specs.WorldWithinRequestLimits.{IsBoundedWorld}
use Rattle.sorted_sets.proofs.Bounds.{no_sets_bounded}
use Rattle.sorted_sets.proofs.owner.OneOwner.new.Goals as goal

pub invariant_of-result : goal.invariant_of-result
invariant_of-result g c = (search rules, record { world = subst IsBoundedWorld (sym (ap world_of c.new.ensures.empty)) no_sets_bounded; next = tt })
