use Rattle.std.proofs.Common.{subst, Some}
use Rattle.sorted_sets.specs.OwnerViewAndInvariant.{IsAfter}
use Rattle.sorted_sets.proofs.Worlds.{updates_key}
use Rattle.sorted_sets.proofs.owner.set_tree.insert_set.Goals as goal

pub returns-clause-put : goal.returns-clause-put
returns-clause-put g c =
    let k = c.in_ok-name.name.items in
    let kept = c.in_ok-kept.kept in
    subst (λ v. IsAfter c.args.sets.now.entries c.args.key.now (Some v) c.insert.new.self.entries) c.in_ok-kept.ensures
    (subst (λ q. IsAfter c.args.sets.now.entries q (Some kept) c.insert.new.self.entries) c.in_ok-name.ensures.items
    (updates_key k c.args.sets.now c.insert.new.self (Some kept) c.in_ok-insert.ensures.updates))
