use Rattle.std.proofs.Common.{◌≡◌, ◌∙◌, sym, subst, Some, None, IsSome, refl}
use Rattle.sorted_sets.specs.OwnerViewAndInvariant.{world_of}
use Rattle.sorted_sets.proofs.Worlds.{updates_key, others_of, world_put, world_kept, world_emptied, rest_emptied, rest_changed, set_at_entry, on_err, if_ok_map, if_err_map, act_of_step, refused_at, rest_at}
use Rattle.sorted_sets.proofs.owner.run.run_once_at.Goals as goal

pub run-ran-requires-clause-idle : goal.run-ran-requires-clause-idle
run-ran-requires-clause-idle g c = (rest_at c.args.sets.now.entries c.args.key.now c.in-Some.set.now c.in-Some.ensures.value c.requires.rest).idle

pub returns-then-card-eq0 : goal.returns-then-card-eq0
returns-then-card-eq0 g c =
    let w = c.run-ran.new.self in
    let es = c.args.sets.now.entries in
    let k = c.args.key.now in
    let m = c.args.command.now.meaning in
    let was = c.in-Some.set.now in
    let left = c.get_mut.follows.lender w in
    let fs = c.remove.new.self.entries in
    let one = updates_key k c.args.sets.now left (Some w) ((c.get_mut.follows.holds w).3 (subst IsSome c.in-Some.ensures.value refl)) in
    let two = updates_key k left c.remove.new.self None c.remove.ensures.updates in
    let gone = world_emptied es left.entries fs k w one two (sym c.card.ensures.card ∙ c.if-card-eq0.true) in
    let at = set_at_entry es k was (sym c.in-Some.ensures.value) in
    record {
      ok = if_ok_map c.run-ran.result (λ reply is. act_of_step (world_of es) k m was.members w.members _ (world_of fs) at is (gone ∙ world_put es left.entries k w one)) c.run-ran.ensures.ok;
      err = on_err c.run-ran.result (w.members ≡ was.members) (world_of fs ≡ world_of es)
          (λ same. gone ∙ world_kept es left.entries k was w (sym c.in-Some.ensures.value) same one) c.run-ran.ensures.err;
      refused = if_err_map c.run-ran.result (λ r h. refused_at (world_of es) k m was.members r at h) c.run-ran.ensures.refused;
      rest = rest_emptied es left.entries fs k w (others_of es k c.requires.rest) one two;
    }

pub returns-else-card-eq0 : goal.returns-else-card-eq0
returns-else-card-eq0 g c =
    let w = c.run-ran.new.self in
    let es = c.args.sets.now.entries in
    let k = c.args.key.now in
    let m = c.args.command.now.meaning in
    let was = c.in-Some.set.now in
    let left = c.get_mut.follows.lender w in
    let one = updates_key k c.args.sets.now left (Some w) ((c.get_mut.follows.holds w).3 (subst IsSome c.in-Some.ensures.value refl)) in
    let at = set_at_entry es k was (sym c.in-Some.ensures.value) in
    record {
      ok = if_ok_map c.run-ran.result (λ reply is. act_of_step (world_of es) k m was.members w.members _ (world_of left.entries) at is (world_put es left.entries k w one)) c.run-ran.ensures.ok;
      err = on_err c.run-ran.result (w.members ≡ was.members) (world_of left.entries ≡ world_of es)
          (λ same. world_kept es left.entries k was w (sym c.in-Some.ensures.value) same one) c.run-ran.ensures.err;
      refused = if_err_map c.run-ran.result (λ r h. refused_at (world_of es) k m was.members r at h) c.run-ran.ensures.refused;
      rest = rest_changed es left.entries k w (others_of es k c.requires.rest) one c.run-ran.ensures.idle (λ none. c.if-card-eq0.false (c.card.ensures.card ∙ none));
    }
