use Rattle.std.proofs.Common.{◌≡◌, sym, subst, Some, None, IsSome, refl}
use Rattle.sorted_sets.specs.OwnerViewAndInvariant.{world_of, next_at, AllRest, IsResting}
use Rattle.sorted_sets.specs.SetAndOwnerViews.{IsPreparedFor, IsPreparedAt}
use Rattle.sorted_sets.proofs.Worlds.{updates_key, refused_at, rest_at, world_kept, set_after, set_at_entry, ready_at, outline_at, others_changed, others_of, rest_kept, on_ok, on_err, if_ok_map, if_err_map}
use Rattle.sorted_sets.proofs.owner.prepare_and_commit.prepare_once_at.Goals as goal

pub prepare-requires-clause-idle : goal.prepare-requires-clause-idle
prepare-requires-clause-idle g c = (rest_at c.args.sets.now.entries c.args.key.now c.in-Some.set.now c.in-Some.ensures.value c.requires.rest).idle

pub returns-in-Some : goal.returns-in-Some
returns-in-Some g c =
    let w = c.prepare.new.self in
    let es = c.args.sets.now.entries in
    let k = c.args.key.now in
    let m = c.args.command.now.meaning in
    let was = c.in-Some.set.now in
    let left = c.get_mut.follows.lender w in
    let after = updates_key k c.args.sets.now left (Some w) ((c.get_mut.follows.holds w).3 (subst IsSome c.in-Some.ensures.value refl)) in
    let at = set_at_entry es k was (sym c.in-Some.ensures.value) in
    let here = set_after es left.entries k w after in
    record {
      world = world_kept es left.entries k was w (sym c.in-Some.ensures.value) c.prepare.ensures.members after;
      ready = on_ok c.prepare.result (IsPreparedFor was.members m w.next) (IsPreparedAt (world_of es) (Some k) m (next_at left.entries (Some k)))
          (λ ready. ready_at (world_of es) k m was.members w left.entries at here ready) c.prepare.ensures.ok;
      outline = if_ok_map c.prepare.result (λ outline made. outline_at (world_of es) k was.members w outline left.entries at here made) c.prepare.ensures.outline;
      others = others_changed IsResting es left.entries k (Some w) (others_of es k c.requires.rest) after;
      refused = if_err_map c.prepare.result (λ r h. refused_at (world_of es) k m was.members r at h) c.prepare.ensures.refused;
      err = on_err c.prepare.result (w.next ≡ None) (AllRest left.entries)
          (λ idle. rest_kept es left.entries k was w c.requires.rest c.in-Some.ensures.value after c.prepare.ensures.members idle) c.prepare.ensures.err;
    }
