use Rattle.std.proofs.Common.{◌∙◌, sym, subst, Some, None, IsSome, refl}
use Rattle.sorted_sets.proofs.Worlds.{updates_key, world_kept, world_emptied, rest_emptied, rest_changed}
use Rattle.sorted_sets.proofs.owner.prepare_and_commit.drop_at.Goals as goal

pub returns-then-card-eq0-clause-world : goal.returns-then-card-eq0-clause-world
returns-then-card-eq0-clause-world g c =
    let w = c.drop_prepared.new.self in
    let es = c.args.sets.now.entries in
    let k = c.args.key.now in
    let left = c.get_mut.follows.lender w in
    let one = updates_key k c.args.sets.now left (Some w) ((c.get_mut.follows.holds w).3 (subst IsSome c.in-Some.ensures.value refl)) in
    world_emptied es left.entries c.remove.new.self.entries k w one (updates_key k left c.remove.new.self None c.remove.ensures.updates) (sym c.card.ensures.card ∙ c.if-card-eq0.true)
    ∙ world_kept es left.entries k c.in-Some.set.now w (sym c.in-Some.ensures.value) c.drop_prepared.ensures.members one

pub returns-then-card-eq0-clause-rest : goal.returns-then-card-eq0-clause-rest
returns-then-card-eq0-clause-rest g c =
    let w = c.drop_prepared.new.self in
    let es = c.args.sets.now.entries in
    let k = c.args.key.now in
    let left = c.get_mut.follows.lender w in
    rest_emptied es left.entries c.remove.new.self.entries k w c.requires.others
    (updates_key k c.args.sets.now left (Some w) ((c.get_mut.follows.holds w).3 (subst IsSome c.in-Some.ensures.value refl))) (updates_key k left c.remove.new.self None c.remove.ensures.updates)

pub returns-else-card-eq0-clause-world : goal.returns-else-card-eq0-clause-world
returns-else-card-eq0-clause-world g c =
    let w = c.drop_prepared.new.self in
    let k = c.args.key.now in
    let left = c.get_mut.follows.lender w in
    world_kept c.args.sets.now.entries left.entries k c.in-Some.set.now w (sym c.in-Some.ensures.value) c.drop_prepared.ensures.members
    (updates_key k c.args.sets.now left (Some w) ((c.get_mut.follows.holds w).3 (subst IsSome c.in-Some.ensures.value refl)))

pub returns-else-card-eq0-clause-rest : goal.returns-else-card-eq0-clause-rest
returns-else-card-eq0-clause-rest g c =
    let w = c.drop_prepared.new.self in
    let k = c.args.key.now in
    let left = c.get_mut.follows.lender w in
    rest_changed c.args.sets.now.entries left.entries k w c.requires.others
    (updates_key k c.args.sets.now left (Some w) ((c.get_mut.follows.holds w).3 (subst IsSome c.in-Some.ensures.value refl))) c.drop_prepared.ensures.idle (λ none. c.if-card-eq0.false (c.card.ensures.card ∙ none))
