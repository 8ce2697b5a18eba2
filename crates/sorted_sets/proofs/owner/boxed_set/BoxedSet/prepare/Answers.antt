use Rattle.std.proofs.Common.{◌∙◌, ap, subst}
use Rattle.std.specs.Option.{IfSome}
use Rattle.std.specs.Result.{IfErr, IfOk, OnOk}
use Rattle.sorted_sets.specs.ChangeCounts.{IsOutline}
use Rattle.zset_commands.specs.Refusal.{IsRefused}
use Rattle.zset_core.specs.Semantics.{step}
use Rattle.sorted_sets.specs.SetAndOwnerViews.{IsPreparedFor, SetView}
use Rattle.zset_core.specs.SortedSet.{Members}
use Rattle.sorted_sets.proofs.owner.boxed_set.BoxedSet.prepare.Goals as goal

-- what the set's own `prepare` ensures, told of the set that the box shows
pub prepare-requires-clause-idle : goal.prepare-requires-clause-idle
prepare-requires-clause-idle g c = ap (λ (set : SetView). set.next) (c.deref_mut.ensures.value ∙ c.self.view_is) ∙ c.requires.idle

pub prepare-requires-clause-writing : goal.prepare-requires-clause-writing
prepare-requires-clause-writing g c = c.requires.writing

pub returns-clause-members : goal.returns-clause-members
returns-clause-members g c = c.prepare.ensures.members ∙ ap (λ (set : SetView). set.members) (c.deref_mut.ensures.value ∙ c.self.view_is)

pub returns-clause-ok : goal.returns-clause-ok
returns-clause-ok g c =
    subst (λ (m : Members). OnOk c.prepare.result (IsPreparedFor m c.args.command.now.meaning c.prepare.new.self.next))
    (ap (λ (set : SetView). set.members) (c.deref_mut.ensures.value ∙ c.self.view_is)) c.prepare.ensures.ok

pub returns-clause-outline : goal.returns-clause-outline
returns-clause-outline g c =
    subst (λ (m : Members). IfOk c.prepare.result (λ outline. IfSome c.prepare.new.self.next (λ next. IsOutline outline m next.members)))
    (ap (λ (set : SetView). set.members) (c.deref_mut.ensures.value ∙ c.self.view_is)) c.prepare.ensures.outline

pub returns-clause-refused : goal.returns-clause-refused
returns-clause-refused g c =
    subst (λ (m : Members). IfErr c.prepare.result (λ refusal. IsRefused refusal (step m c.args.command.now.meaning)))
    (ap (λ (set : SetView). set.members) (c.deref_mut.ensures.value ∙ c.self.view_is)) c.prepare.ensures.refused

pub returns-clause-err : goal.returns-clause-err
returns-clause-err g c = c.prepare.ensures.err
