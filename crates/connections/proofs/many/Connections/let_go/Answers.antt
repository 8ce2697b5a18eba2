use Rattle.std.proofs.Common.{◌≡◌, ◌<◌, refl, ◌∙◌, subst, box_value}
use Rattle.connections.specs.HeldConnections.{HeldState, MayLeave}
use Rattle.connections.proofs.HeldLemmas.{left_by, became_by}
use Rattle.connections.proofs.many.Connections.let_go.Goals as goal

pub returns-in_default-clause-leave : goal.returns-in_default-clause-leave
returns-in_default-clause-leave g c = left_by box_value c.self.inside.slots _ c.args.place _ (λ i. (c.self.view_is i).held) c.take.ensures.out (MayLeave _) (λ (h : HeldState). (refl, λ behind. refl))

pub returns-in-Some-queue_again-clause-leave : goal.returns-in-Some-queue_again-clause-leave
returns-in-Some-queue_again-clause-leave g c =
    let stays = c.set_queued.ensures.same ∙ c.deref_mut-in-Some-queue_again.ensures.value in
    let visit = (λ i. (stays i).visit) ∙ c.let_go-next.ensures.visit ∙ (λ i. (c.deref_mut.ensures.value i).visit) in
    let settled = c.settle_to.new.settled in
    let waits = subst (λ (h : HeldState). settled < h.awaited → c.set_queued.new.self ≡ h) c.deref_mut.ensures.value (λ behind. stays ∙ c.let_go-next.ensures.held behind) in
    became_by box_value c.self.inside.slots c.take.new.self c.args.place _ (λ i. (c.self.view_is i).held) c.take.ensures.out (MayLeave settled) (λ (h : HeldState). (refl, λ behind. refl))
    c.put_back.new.self c.in-Some.held (record { ptr = c.in-Some.held.ptr; alloc = c.in-Some.held.alloc; value = c.set_queued.new.self }) c.in-Some.ensures.value (visit, waits) c.put_back.ensures.put

pub returns-in-None-clause-leave : goal.returns-in-None-clause-leave
returns-in-None-clause-leave g c = left_by box_value c.self.inside.slots _ c.args.place _ (λ i. (c.self.view_is i).held) (c.let_go.ensures.same ∙ c.take.ensures.out) (MayLeave _) (λ (h : HeldState). (refl, λ behind. refl))
