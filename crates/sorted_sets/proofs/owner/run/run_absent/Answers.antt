use Rattle.std.proofs.Common.{◌∙◌, sym}
use Rattle.sorted_sets.specs.OwnerViewAndInvariant.{world_of}
use Rattle.resp_wire.specs.Response.{response_of}
use Rattle.sorted_sets.proofs.Worlds.{act_of_step, refused_at, set_at_none, none_at, put_empty, world_put, others_of, rest_changed, runs_not}
use Rattle.sorted_sets.proofs.owner.run.run_absent.Goals as goal

pub returns-in-Err : goal.returns-in-Err
returns-in-Err g c =
    let es = c.args.sets.now.entries in
    let k = c.args.key.now in
    runs_not es k c.args.command.now.meaning _ c.requires.rest (refused_at (world_of es) k c.args.command.now.meaning c.with_hasher-set.result.members _ (set_at_none es k c.requires.absent ∙ sym c.with_hasher-set.ensures.members) c.in-Err.ensures.refused)

pub returns-then-card-eq0 : goal.returns-then-card-eq0
returns-then-card-eq0 g c =
    let es = c.args.sets.now.entries in
    let k = c.args.key.now in
    record {
      ok = act_of_step (world_of es) k c.args.command.now.meaning c.with_hasher-set.result.members c.run_set.new.set.members (response_of c.in-Ok.reply) (world_of es)
          (set_at_none es k c.requires.absent ∙ sym c.with_hasher-set.ensures.members) c.in-Ok.ensures.ok
          (sym (put_empty (world_of es) k c.run_set.new.set.members (none_at es k c.requires.absent) (sym c.card.ensures.card ∙ c.if-card-eq0.true)));
      err = tt;
      refused = tt;
      rest = c.requires.rest;
    }

pub returns-in_ok-insert_set-in-Ok : goal.returns-in_ok-insert_set-in-Ok
returns-in_ok-insert_set-in-Ok g c =
    let es = c.args.sets.now.entries in
    let fs = c.insert_set.new.sets.entries in
    let k = c.args.key.now in
    let w = c.run_set.new.set in
    record {
      ok = act_of_step (world_of es) k c.args.command.now.meaning c.with_hasher-set.result.members w.members (response_of c.in-Ok.reply) (world_of fs)
          (set_at_none es k c.requires.absent ∙ sym c.with_hasher-set.ensures.members) c.in-Ok.ensures.ok (world_put es fs k w c.in_ok-insert_set-in-Ok.ensures.put);
      err = tt;
      refused = tt;
      rest = rest_changed es fs k w (others_of es k c.requires.rest) c.in_ok-insert_set-in-Ok.ensures.put c.run_set.ensures.idle (λ none. c.if-card-eq0.false (c.card.ensures.card ∙ none));
    }
