use Rattle.std.proofs.Common.{◌∙◌, sym, ap, subst, List, ℕ, Option, Some, rules, IfSome}
use Rattle.resp_wire.specs.RequestEncoding.{IsArgument}
use Rattle.zset_commands.specs.AbstractCommand.{Asked, key_of}
use Rattle.sorted_sets.specs.OwnerViewAndInvariant.{world_of, next_at}
use Rattle.sorted_sets.specs.WorldWithinRequestLimits.{IsBoundedWorld}
use Rattle.sorted_sets.proofs.Bounds.{IsBoundedNext, ready_bounded_at}
use Rattle.sorted_sets.proofs.OwnerBounds.{world_bounded}
use Rattle.sorted_sets.proofs.owner.OneOwner.prepare.Goals as goal

pub invariant_of-self-in-Some : goal.invariant_of-self-in-Some
invariant_of-self-in-Some g c =
    let es = c.self.inside.sets.entries in
    let fs = c.prepare_at.new.sets.entries in
    let k = c.in-Some.key.now in
    let meant = c.in-Some.ensures.bounded in
    let bounded = world_bounded es c.self.inside.asked c.self.invariant.1 in
    let asked_is = c.in-Some.ensures.key ∙ sym (ap (λ (a : Asked). key_of a.meaning) c.of.ensures) in (
      search rules,
      record {
        world = subst IsBoundedWorld (sym c.prepare_at.ensures.world) bounded;
        next = subst (λ (o : Option (List ℕ)). IsBoundedNext (next_at fs o)) asked_is
            (ready_bounded_at (world_of es) c.args.command.now.meaning (next_at fs (Some k)) (Some k) bounded (subst (λ (o : Option (List ℕ)). IfSome o IsArgument) (sym c.in-Some.ensures.key) meant.key) meant.puts c.in_ok-outline-in-Some.ensures.ready);
      },
    )
