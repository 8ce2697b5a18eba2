use Rattle.std.proofs.Common.{◌≡◌, ◌<◌, ℕ, refl, ◌∙◌, sym, subst, box_value}
use Rattle.session_core.proofs.Interleaving.{moves-refl}
use Rattle.connection_turns.specs.ConnectionTurnState.{GoesOn}
use Rattle.connections.specs.HeldConnections.{HeldState, ConnectionWaits, AllWait}
use Rattle.connections.proofs.PlaceLemmas.{all_shown}
use Rattle.connections.proofs.HeldLemmas.{others_served, left_by, became_by, turns_refl}
use Rattle.connections.proofs.many.Connections.serve_part.Goals as goal

pub returns-then-place-len : goal.returns-then-place-len
returns-then-place-len g c = turns_refl g.E.Exec.allows g.E.Exec.settled _ _ c.requires.settled

pub returns-in_default : goal.returns-in_default
returns-in_default g c =
    let allows = g.E.Exec.allows in
    let here = c.args.exec.now in
    record {
      settled = c.requires.settled;
      moves = moves-refl allows here;
      goes_on = left_by box_value c.self.inside.slots c.take.new.self c.args.place _ (λ i. (c.self.view_is i).held) c.take.ensures.out (λ (before after : HeldState). GoesOn allows before.visit here after.visit here) (λ (h : HeldState). others_served allows c.takes_turns.ensures.law here here (moves-refl allows here) h.visit);
      waits = left_by box_value c.self.inside.slots c.take.new.self c.args.place _ (λ i. (c.self.view_is i).held) c.take.ensures.out (ConnectionWaits _) (λ (h : HeldState) behind. refl);
      known = λ i. (c.self.view_is i).settled;
    }

pub returns-in-Some-queue_again : goal.returns-in-Some-queue_again
returns-in-Some-queue_again g c =
    let allows = g.E.Exec.allows in
    let here = c.args.exec.now in
    let there = c.turn-next.new.exec in
    let settled = c.self.inside.settled in
    let stays = c.set_queued.ensures.same ∙ c.deref_mut-in-Some-queue_again.ensures.value in
    let goes = subst (λ (h : HeldState). GoesOn allows h.visit here c.set_queued.new.self.visit there) c.deref_mut.ensures.value
    (subst (λ (h : HeldState). GoesOn allows c.deref_mut.result.now.visit here h.visit there) (sym stays) c.turn-next.ensures.goes_on) in
    let waits = subst (λ (h : HeldState). settled < h.awaited → c.set_queued.new.self ≡ h) c.deref_mut.ensures.value (λ behind. stays ∙ c.turn-next.ensures.held behind) in
    let all_wait = became_by box_value c.self.inside.slots c.take.new.self c.args.place _ (λ i. (c.self.view_is i).held) c.take.ensures.out (ConnectionWaits settled) (λ (h : HeldState) behind. refl)
    c.put_back.new.self c.in-Some.held (record { ptr = c.in-Some.held.ptr; alloc = c.in-Some.held.alloc; value = c.set_queued.new.self }) c.in-Some.ensures.value waits c.put_back.ensures.put in
    record {
      settled = c.turn-next.ensures.settled;
      moves = c.turn-next.ensures.moves;
      goes_on = became_by box_value c.self.inside.slots c.take.new.self c.args.place _ (λ i. (c.self.view_is i).held) c.take.ensures.out (λ (before after : HeldState). GoesOn allows before.visit here after.visit there) (λ (h : HeldState). others_served allows c.takes_turns.ensures.law here there c.turn-next.ensures.moves h.visit)
          c.put_back.new.self c.in-Some.held (record { ptr = c.in-Some.held.ptr; alloc = c.in-Some.held.alloc; value = c.set_queued.new.self }) c.in-Some.ensures.value goes c.put_back.ensures.put;
      waits = subst (λ (n : ℕ). AllWait n c.args.self.now.held (all_shown box_value c.put_back.new.self)) (λ i. (c.self.view_is i).settled) all_wait;
      known = λ i. (c.self.view_is i).settled;
    }

pub returns-in-None : goal.returns-in-None
returns-in-None g c =
    let allows = g.E.Exec.allows in
    let here = c.args.exec.now in
    let there = c.turn-next.new.exec in
    record {
      settled = c.turn-next.ensures.settled;
      moves = c.turn-next.ensures.moves;
      goes_on = left_by box_value c.self.inside.slots c.let_go.new.self c.args.place _ (λ i. (c.self.view_is i).held) (c.let_go.ensures.same ∙ c.take.ensures.out) (λ (before after : HeldState). GoesOn allows before.visit here after.visit there) (λ (h : HeldState). others_served allows c.takes_turns.ensures.law here there c.turn-next.ensures.moves h.visit);
      waits = left_by box_value c.self.inside.slots c.let_go.new.self c.args.place _ (λ i. (c.self.view_is i).held) (c.let_go.ensures.same ∙ c.take.ensures.out) (ConnectionWaits _) (λ (h : HeldState) behind. refl);
      known = λ i. (c.self.view_is i).settled;
    }
