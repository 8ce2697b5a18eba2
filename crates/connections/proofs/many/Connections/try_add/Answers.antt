use Rattle.std.proofs.Common.{◌∙◌, refl, sym, subst, List, Option, None, inr, box_value}
use Rattle.connections.specs.Places.{MayPut}
use Rattle.connections.specs.HeldConnections.{HeldState, Begins}
use Rattle.connection_turns.specs.ConnectionTurnState.{new_state}
use Rattle.connections.proofs.PlaceLemmas.{all_shown, shown_put}
use Rattle.connections.proofs.many.Connections.try_add.Goals as goal

pub returns-clause-added : goal.returns-clause-added
returns-clause-added g c =
    let is = c.set_queued.ensures.same ∙ c.deref_mut.ensures.value ∙ c.in_ok-held.ensures.ok in
    let connection = c.set_queued.new.self in
    let shown_new = all_shown box_value c.put.new.self in
    record {
      connection = connection;
      begins = subst (λ (h : HeldState). Begins (new_state (g.S.ByteSource.told c.args.source) (g.D.ByteDrain.told c.args.drain)) h) (sym is) c.new-visit.ensures.new;
      grown = c.make_room.new.self.held;
      is_grown = c.make_room.ensures.grown;
      put = subst (λ (grown : List (Option HeldState)). MayPut connection grown shown_new) (λ i. (c.self.view_is i).held) (shown_put box_value _ c.self.inside.slots c.put.new.self c.put.ensures.put);
    }

-- there was no room: it is dropped
pub returns-in_err-place-clause-added : goal.returns-in_err-place-clause-added
returns-in_err-place-clause-added g c = record {
  connection = record { visit = new_state (g.S.ByteSource.told c.args.source) (g.D.ByteDrain.told c.args.drain); awaited = 0; left = None };
  begins = (refl, refl);
  grown = c.make_room.new.self.held;
  is_grown = c.make_room.ensures.grown;
  put = inr refl;
}
