use Rattle.std.proofs.Common.{◌∙◌, sym, subst, Some, None, IsSome, refl}
use Rattle.sorted_sets.specs.OwnerViewAndInvariant.{world_of}
use Rattle.sorted_sets.proofs.Worlds.{updates_key, world_put, world_emptied, rest_emptied, rest_changed, made_at}
use Rattle.sorted_sets.proofs.owner.prepare_and_commit.commit_at.Goals as goal

pub returns-then-card-eq0-clause-made : goal.returns-then-card-eq0-clause-made
returns-then-card-eq0-clause-made g c =
    let w = c.commit-reply.new.self in
    let es = c.args.sets.now.entries in
    let k = c.args.key.now in
    let left = c.get_mut.follows.lender w in
    let one = updates_key k c.args.sets.now left (Some w) ((c.get_mut.follows.holds w).3 (subst IsSome c.in-Some.ensures.value refl)) in
    made_at es k c.in-Some.set.now w (world_of c.remove.new.self.entries) _ (sym c.in-Some.ensures.value)
    (world_emptied es left.entries c.remove.new.self.entries k w one (updates_key k left c.remove.new.self None c.remove.ensures.updates) (sym c.card.ensures.card ∙ c.if-card-eq0.true) ∙ world_put es left.entries k w one)
    c.commit-reply.ensures.made

pub returns-then-card-eq0-clause-rest : goal.returns-then-card-eq0-clause-rest
returns-then-card-eq0-clause-rest g c =
    let w = c.commit-reply.new.self in
    let es = c.args.sets.now.entries in
    let k = c.args.key.now in
    let left = c.get_mut.follows.lender w in
    rest_emptied es left.entries c.remove.new.self.entries k w c.requires.others
    (updates_key k c.args.sets.now left (Some w) ((c.get_mut.follows.holds w).3 (subst IsSome c.in-Some.ensures.value refl))) (updates_key k left c.remove.new.self None c.remove.ensures.updates)

pub returns-else-card-eq0-clause-made : goal.returns-else-card-eq0-clause-made
returns-else-card-eq0-clause-made g c =
    let w = c.commit-reply.new.self in
    let es = c.args.sets.now.entries in
    let k = c.args.key.now in
    let left = c.get_mut.follows.lender w in
    let one = updates_key k c.args.sets.now left (Some w) ((c.get_mut.follows.holds w).3 (subst IsSome c.in-Some.ensures.value refl)) in
    made_at es k c.in-Some.set.now w (world_of left.entries) _ (sym c.in-Some.ensures.value) (world_put es left.entries k w one) c.commit-reply.ensures.made

pub returns-else-card-eq0-clause-rest : goal.returns-else-card-eq0-clause-rest
returns-else-card-eq0-clause-rest g c =
    let w = c.commit-reply.new.self in
    let k = c.args.key.now in
    let left = c.get_mut.follows.lender w in
    rest_changed c.args.sets.now.entries left.entries k w c.requires.others
    (updates_key k c.args.sets.now left (Some w) ((c.get_mut.follows.holds w).3 (subst IsSome c.in-Some.ensures.value refl))) c.commit-reply.ensures.idle (λ none. c.if-card-eq0.false (c.card.ensures.card ∙ none))
