use Rattle.std.proofs.Common.{◌∙◌, ap, subst}
use Rattle.sorted_sets.specs.SetAndOwnerViews.{RunsOn, SetView}
use Rattle.sorted_sets.proofs.owner.boxed_set.BoxedSet.run.Goals as goal

-- what `run_set` ensures, told of the set that the box shows
pub run_set-requires-clause-idle : goal.run_set-requires-clause-idle
run_set-requires-clause-idle g c = ap (λ (set : SetView). set.next) (c.deref_mut.ensures.value ∙ c.self.view_is) ∙ c.requires.idle

pub run_set-requires-clause-keyed : goal.run_set-requires-clause-keyed
run_set-requires-clause-keyed g c = c.requires.keyed

pub returns : goal.returns
returns g c =
    subst (λ (set : SetView). RunsOn c.args.command.now.meaning c.run_set.result set c.run_set.new.set)
    (c.deref_mut.ensures.value ∙ c.self.view_is) c.run_set.ensures
