use Rattle.std.proofs.Common.{◌∙◌, sym, Some}
use Rattle.sorted_sets.specs.OwnerViewAndInvariant.{world_of, IsResting}
use Rattle.sorted_sets.proofs.Worlds.{refused_at, set_at_none, world_made, set_after, ready_at, outline_at, others_changed, others_of, prepares_not}
use Rattle.sorted_sets.proofs.owner.prepare_and_commit.prepare_absent.Goals as goal

pub returns-in-Err : goal.returns-in-Err
returns-in-Err g c =
    let es = c.args.sets.now.entries in
    let k = c.args.key.now in
    prepares_not es k c.args.command.now.meaning _ c.requires.rest (refused_at (world_of es) k c.args.command.now.meaning c.with_hasher-set.result.members _ (set_at_none es k c.requires.absent ∙ sym c.with_hasher-set.ensures.members) c.in-Err.ensures.refused)

pub returns-in_ok-insert_set-in-Ok : goal.returns-in_ok-insert_set-in-Ok
returns-in_ok-insert_set-in-Ok g c =
    let es = c.args.sets.now.entries in
    let fs = c.insert_set.new.sets.entries in
    let k = c.args.key.now in
    let m = c.args.command.now.meaning in
    let w = c.prepare.new.self in
    let at = set_at_none es k c.requires.absent ∙ sym c.with_hasher-set.ensures.members in
    let here = set_after es fs k w c.in_ok-insert_set-in-Ok.ensures.put in
    record {
      world = world_made es fs k w (c.prepare.ensures.members ∙ c.with_hasher-set.ensures.members) c.requires.absent c.in_ok-insert_set-in-Ok.ensures.put;
      ready = ready_at (world_of es) k m c.with_hasher-set.result.members w fs at here c.in-Ok.ensures.ok;
      outline = outline_at (world_of es) k c.with_hasher-set.result.members w c.in-Ok.outline fs at here c.in-Ok.ensures.outline;
      others = others_changed IsResting es fs k (Some w) (others_of es k c.requires.rest) c.in_ok-insert_set-in-Ok.ensures.put;
      refused = tt;
      err = tt;
    }
