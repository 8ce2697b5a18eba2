use Rattle.std.proofs.Common.{◌∙◌, ap, refl, box_value}
use Rattle.connections.proofs.PlaceLemmas.{all_shown, emptied_alike}
use Rattle.connections.proofs.HeldLemmas.{put_back_by}
use Rattle.connections.proofs.many.Connections.note.Goals as goal

pub returns-in_default : goal.returns-in_default
returns-in_default g c =
    let held_is = ap (all_shown box_value) c.take.ensures.out ∙ emptied_alike box_value c.self.inside.slots c.args.place c.in_default.ensures.value in
    record { same = (λ i. record { held = held_is i; settled = c.self.inside.settled }) ∙ c.self.view_is }

pub returns : goal.returns
returns g c =
    let alike = c.set_queued.ensures.same ∙ c.deref_mut-2.ensures.value ∙ c.note.ensures.same ∙ c.deref_mut.ensures.value in
    let held_is = put_back_by box_value c.self.inside.slots c.take.new.self c.args.place _ refl c.take.ensures.out c.put_back.new.self c.in-Some.held (record { ptr = c.in-Some.held.ptr; alloc = c.in-Some.held.alloc; value = c.set_queued.new.self }) c.in-Some.ensures.value alike c.put_back.ensures.put in
    record { same = (λ i. record { held = held_is i; settled = c.self.inside.settled }) ∙ c.self.view_is }
