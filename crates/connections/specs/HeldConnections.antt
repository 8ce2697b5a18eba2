-- The connections that a worker holds, each at its place.
use Rattle.std.specs.Prelude.{◌≡◌, ℕ, ◌≤◌, ◌<◌, ◌⊎◌, List, [], Option, Result}
use Rattle.resp_wire.specs.Response.{Response}
use Rattle.zset_commands.specs.AbstractCommand.{Asked}
use Rattle.zset_commands.specs.declared.refusal.Refusal.{Refusal}
use Rattle.session_core.specs.Interleaved.{StateMoves}
use Rattle.connections.specs.Places.{IsGrown, MayPut, EachWas, Each}
use Rattle.connection_turns.specs.ConnectionTurnState.{VisitState, GoesOn, HasBegun}

-- what contracts see of a connection that is held: its visit, the number of the last record that its replies wait for (0:
-- none), and the bytes that left, as far as they are known
pub record HeldState : Type 0 where
  pub visit : VisitState
  pub awaited : ℕ
  pub left : Option (List ℕ)

-- the connections of a worker at their places, and how many records it knows to be settled
pub record HeldConnections : Type 0 where
  pub held : List (Option HeldState)
  pub settled : ℕ

abbrev pub no_connections : HeldConnections
no_connections = record { held = []; settled = 0 }

module _ {S : Type 0} (allows : S → Asked → Result Response Refusal → S → Type 0) where
  -- each connection that is held was held before, and whatever was known of its visit holds on
  abbrev pub AllGoOn : List (Option HeldState) → S → List (Option HeldState) → S → Type 0
  AllGoOn old here new there = EachWas (λ before after. GoesOn allows before.visit here after.visit there) old new

  -- each connection that is held is served as one that is served alone, its exchanges standing among those of the others
  abbrev pub AllStand : List (Option HeldState) → S → Type 0
  AllStand held here = Each (λ connection. HasBegun allows here connection.visit) held

-- it is of this visit, and its replies wait for no record
abbrev pub Begins : VisitState → HeldState → Type 0
Begins visit connection = (connection.visit ≡ visit) × (connection.awaited ≡ 0)

-- a connection of this visit was added to those that are held, or else dropped
pub record IsAdded (visit : VisitState) (old new : List (Option HeldState)) : Type 0 where
  pub connection : HeldState
  pub begins : Begins visit connection
  pub grown : List (Option HeldState)
  pub is_grown : IsGrown old grown
  pub put : MayPut connection grown new

-- some connections have left; the others stand as before
abbrev pub HaveLeft : List (Option HeldState) → List (Option HeldState) → Type 0
HaveLeft old new = EachWas (λ before after. after ≡ before) old new

-- a connection whose replies wait for a record behind so many stays as it is: none of them leaves
abbrev pub ConnectionWaits : ℕ → HeldState → HeldState → Type 0
ConnectionWaits settled before after = settled < before.awaited → after ≡ before

abbrev pub AllWait : ℕ → List (Option HeldState) → List (Option HeldState) → Type 0
AllWait settled old new = EachWas (ConnectionWaits settled) old new

module _ {S : Type 0} (allows : S → Asked → Result Response Refusal → S → Type 0) (is_settled : S → Type 0) where
  -- turns were taken, one behind the other: the executor's state is a settled one, moved by requests alone; each connection goes
  -- on, and none moves that waits for a record behind those that are known to be settled
  pub record TurnsAreTaken (old : HeldConnections) (here : S) (new : HeldConnections) (there : S) : Type 0 where
    pub settled : is_settled there
    pub moves : StateMoves allows here there
    pub goes_on : AllGoOn allows old.held here new.held there
    pub waits : AllWait old.settled old.held new.held
    pub known : new.settled ≡ old.settled

-- replies may have left: no request was run, no reply was made, and none left that waits for a record behind so many
abbrev pub MayLeave : ℕ → HeldState → HeldState → Type 0
MayLeave settled before after = (after.visit ≡ before.visit) × ConnectionWaits settled before after

abbrev pub AllMayLeave : ℕ → List (Option HeldState) → List (Option HeldState) → Type 0
AllMayLeave settled old new = EachWas (MayLeave settled) old new
