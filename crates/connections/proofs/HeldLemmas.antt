-- How the connections of a worker go on, each at its place.
use Rattle.std.proofs.Common.{◌≡◌, ◌≤◌, ◌<◌, ℕ, ◌⊎◌, List, refl, sym, ◌∙◌, ap, subst, arith, Option, Some, None, slice_get, slice_set, Result, inl, inr}
use Rattle.resp_wire.specs.DecoderView.{DecoderView}
use Rattle.resp_wire.specs.Response.{Response}
use Rattle.zset_commands.specs.AbstractCommand.{Asked}
use Rattle.zset_commands.specs.declared.refusal.Refusal.{Refusal}
use Rattle.session_core.specs.declared.resumable_session.Progress.{Progress}
use Rattle.session_core.specs.Interleaved.{StateMoves, TakesTurns}
use Rattle.connection_turns.specs.declared.connection_in_turns.Stage.{Stage}
use Rattle.connection_turns.specs.declared.connection_in_turns.Stage.TheVariants.{Reads, Runs, Ended}
use Rattle.connections.specs.Places.{ValueIsAt, MayPut, EachWas}
use Rattle.connection_turns.specs.ConnectionTurnState.{VisitState, Stands, GoesOn, HasBegun, visit_state, new_state}
use Rattle.connections.specs.HeldConnections.{HeldState, HeldConnections, AllGoOn, AllStand, IsAdded, HaveLeft, ConnectionWaits, AllWait, AllMayLeave, TurnsAreTaken}
use Rattle.connection_turns.specs.SettledRecords.{RisesBy}
use Rattle.session_core.proofs.Interleaving.{moves-refl, moves-trans}
use Rattle.connections.proofs.PlaceLemmas.{at_set, at_grown, was_trans, was_so, each_now, all_shown, exchanged_alike, exchanged_was, emptied_was}

module _ {S : Type 0} (allows : S → Asked → Result Response Refusal → S → Type 0) where
  -- others were served
  pub others_served : TakesTurns allows → (here there : S) → StateMoves allows here there → (visit : VisitState) → GoesOn allows visit here visit there
  others_served law here there moves visit start source₀ drain₀ stands = waits_at visit.stage visit.source visit.drain visit.wire visit.progress stands
    where
      waits_at : (stage : Stage) (source drain : Option (List ℕ)) (wire : DecoderView) (progress : Progress) → Stands allows start source₀ drain₀ (visit_state stage source drain wire progress) here → Stands allows start source₀ drain₀ (visit_state stage source drain wire progress) there
      waits_at Reads source drain wire progress way = law.waits start here there source₀ source drain₀ drain wire progress way moves
      waits_at Runs source drain wire progress part = law.waits_part start here there source₀ source drain₀ drain wire progress part moves
      waits_at (Ended result) source drain wire progress served = law.waits_ended start here there source₀ source drain₀ drain result served moves

  pub all_go_on_refl : (held : List (Option HeldState)) (here : S) → AllGoOn allows held here held here
  all_go_on_refl held here place connection at = (connection, at, λ start source₀ drain₀ stands. stands)

  pub all_go_on_trans : (first second third : List (Option HeldState)) (a b c : S) → AllGoOn allows first a second b → AllGoOn allows second b third c → AllGoOn allows first a third c
  all_go_on_trans first second third a b c one other =
      was_trans (λ before after. GoesOn allows before.visit a after.visit b) (λ before after. GoesOn allows before.visit b after.visit c) (λ before after. GoesOn allows before.visit a after.visit c)
      (λ before middle after then next start source₀ drain₀ stands. next start source₀ drain₀ (then start source₀ drain₀ stands)) first second third one other

  -- replies left, or connections
  pub left_go_on : (settled : ℕ) (first second third : List (Option HeldState)) (a b : S) → AllGoOn allows first a second b → AllMayLeave settled second third → AllGoOn allows first a third b
  left_go_on settled first second third a b goes leave =
      was_trans (λ before after. GoesOn allows before.visit a after.visit b) (λ before after. after.visit ≡ before.visit) (λ before after. GoesOn allows before.visit a after.visit b)
      (λ before middle after then same. subst (λ (visit : VisitState). GoesOn allows before.visit a visit b) (sym same) then) first second third goes
      (was_so _ (λ before after. after.visit ≡ before.visit) (λ before after may. may.0) second third leave)

  -- what stands goes on standing
  pub all_stand_on : (old new : List (Option HeldState)) (here there : S) → AllGoOn allows old here new there → AllStand allows old here → AllStand allows new there
  all_stand_on old new here there goes stand =
      each_now (λ before. HasBegun allows here before.visit) (λ after. HasBegun allows there after.visit) (λ before after. GoesOn allows before.visit here after.visit there)
      (λ before after then begun. (begun.0, begun.1, begun.2, then begun.0 begun.1 begun.2 begun.3)) old new goes stand

  -- a connection that begins stands
  pub added_stands : TakesTurns allows → (old new : List (Option HeldState)) (here : S) (source drain : Option (List ℕ)) → IsAdded (new_state source drain) old new → AllStand allows old here → AllStand allows new here
  added_stands law old new here source drain added stand other connection at = by_put added.put
    where
      was_held : ValueIsAt added.grown other connection → HasBegun allows here connection.visit
      was_held before = stand other connection (at_grown old added.grown added.is_grown other connection before)

      by_put : MayPut added.connection added.grown new → HasBegun allows here connection.visit
      by_put (inr same) = was_held (subst (λ (slots : List (Option HeldState)). ValueIsAt slots other connection) same at)
      by_put (inl p) = by_place (at_set added.grown p.place other added.connection connection (subst (λ (slots : List (Option HeldState)). ValueIsAt slots other connection) p.put at))
        where
          by_place : ((other ≡ p.place) × (connection ≡ added.connection)) ⊎ ValueIsAt added.grown other connection → HasBegun allows here connection.visit
          by_place (inl (place, is)) =
              let visit_is : connection.visit ≡ new_state source drain = ap (λ (h : HeldState). h.visit) is ∙ added.begins.0 in
              (here, source, drain, subst (λ (v : VisitState). Stands allows here source drain v here) (sym visit_is) (law.begins here source drain))
          by_place (inr before) = was_held before

-- each stays as it was
pub none_left : (held : List (Option HeldState)) → HaveLeft held held
none_left held place connection at = (connection, at, refl)

pub left_trans : (first second third : List (Option HeldState)) → HaveLeft first second → HaveLeft second third → HaveLeft first third
left_trans first second third one other =
    was_trans (λ before after. after ≡ before) (λ before after. after ≡ before) (λ before after. after ≡ before) (λ before middle after then next. next ∙ then) first second third one other

pub all_wait_refl : (settled : ℕ) (held : List (Option HeldState)) → AllWait settled held held
all_wait_refl settled held place connection at = (connection, at, λ behind. refl)

-- what waits for a record behind so many waits for one behind fewer
waits_from : (fewer more : ℕ) → fewer ≤ more → (before after : HeldState) → ConnectionWaits fewer before after → ConnectionWaits more before after
waits_from fewer more rises before after waits behind = waits (omega (arith, rises, behind))

waits_on : (fewer more : ℕ) → fewer ≤ more → (a b c : HeldState) → ConnectionWaits fewer a b → ConnectionWaits more b c → ConnectionWaits more a c
waits_on fewer more rises a b c first second behind =
    let stays = waits_from fewer more rises a b first behind in
    second (subst (λ (h : HeldState). more < h.awaited) (sym stays) behind) ∙ stays

pub all_wait_trans : (fewer more : ℕ) → fewer ≤ more → (first second third : List (Option HeldState)) → AllWait fewer first second → AllWait more second third → AllWait more first third
all_wait_trans fewer more rises first second third one other = was_trans (ConnectionWaits fewer) (ConnectionWaits more) (ConnectionWaits more) (waits_on fewer more rises) first second third one other

module _ {S : Type 0} (allows : S → Asked → Result Response Refusal → S → Type 0) (is_settled : S → Type 0) where
  -- no turn was taken
  pub turns_refl : (held : HeldConnections) (here : S) → is_settled here → TurnsAreTaken allows is_settled held here held here
  turns_refl held here settled = record {
    settled = settled;
    moves = moves-refl allows here;
    goes_on = all_go_on_refl allows held.held here;
    waits = all_wait_refl held.settled held.held;
    known = refl;
  }

  pub turns_trans : (first second third : HeldConnections) (a b c : S) → TurnsAreTaken allows is_settled first a second b → TurnsAreTaken allows is_settled second b third c → TurnsAreTaken allows is_settled first a third c
  turns_trans first second third a b c one other = record {
    settled = other.settled;
    moves = moves-trans allows a b c one.moves other.moves;
    goes_on = all_go_on_trans allows first.held second.held third.held a b c one.goes_on other.goes_on;
    waits = all_wait_trans first.settled first.settled (omega arith) first.held second.held third.held one.waits
        (subst (λ (n : ℕ). AllWait n second.held third.held) one.known other.waits);
    known = other.known ∙ one.known;
  }

  -- turns behind others, which are seen to begin where those ended
  pub turns_on : (first second shown third : HeldConnections) (a b c : S) → TurnsAreTaken allows is_settled first a second b → shown ≡ second → TurnsAreTaken allows is_settled shown b third c → TurnsAreTaken allows is_settled first a third c
  turns_on first second shown third a b c one same other =
      turns_trans first second third a b c one (subst (λ (before : HeldConnections). TurnsAreTaken allows is_settled before b third c) same other)

pub may_leave_refl : (settled : ℕ) (held : List (Option HeldState)) → AllMayLeave settled held held
may_leave_refl settled held place connection at = (connection, at, (refl, λ behind. refl))

pub may_leave_trans : (fewer more : ℕ) → fewer ≤ more → (first second third : List (Option HeldState)) → AllMayLeave fewer first second → AllMayLeave more second third → AllMayLeave more first third
may_leave_trans fewer more rises first second third one other =
    was_trans _ _ _ (λ a b c then next. (next.0 ∙ then.0, waits_on fewer more rises a b c then.1 next.1)) first second third one other

-- connections that left are none whose replies did
pub left_leave : (settled : ℕ) (old new : List (Option HeldState)) → HaveLeft old new → AllMayLeave settled old new
left_leave settled old new left = was_so _ _ (λ before after same. (ap (λ (h : HeldState). h.visit) same, λ behind. same)) old new left

pub leave_waits : (settled : ℕ) (old new : List (Option HeldState)) → AllMayLeave settled old new → AllWait settled old new
leave_waits settled old new leave = was_so _ _ (λ before after may. may.1) old new leave

pub rises_refl : (settles : ℕ → Type 0) (settled : ℕ) → RisesBy settles settled settled
rises_refl settles settled = record { rises = omega arith; told = inl refl }

pub rises_trans : (settles : ℕ → Type 0) (a b c : ℕ) → RisesBy settles a b → RisesBy settles b c → RisesBy settles a c
rises_trans settles a b c first second = record { rises = omega (arith, first.rises, second.rises); told = by_last second.told }
  where
    by_first : (c ≡ b) → (b ≡ a) ⊎ settles b → (c ≡ a) ⊎ settles c
    by_first same (inl none) = inl (same ∙ none)
    by_first same (inr told) = inr (subst settles (sym same) told)

    by_last : (c ≡ b) ⊎ settles c → (c ≡ a) ⊎ settles c
    by_last (inl same) = by_first same first.told
    by_last (inr told) = inr told

module _ {V : Type 0} (shown : V → HeldState) (slots taken : List (Option V)) (place : ℕ) (before : List (Option HeldState)) (is : all_shown shown slots ≡ before) (out : taken ≡ slice_set slots place None) where
  -- it was put back as it was
  pub put_back_by : (final : List (Option V)) (old new : V) → slice_get slots place ≡ Some (Some old) → shown new ≡ shown old → final ≡ slice_set taken place (Some new) → all_shown shown final ≡ before
  put_back_by final old new at alike put =
      ap (all_shown shown) (put ∙ ap (λ (s : List (Option V)). slice_set s place (Some new)) out) ∙ exchanged_alike shown slots place old new at alike ∙ is

  module _ (became : HeldState → HeldState → Type 0) (stays : (h : HeldState) → became h h) where
    -- the connection at a place has left
    pub left_by : EachWas became before (all_shown shown taken)
    left_by =
        subst (λ (b : List (Option HeldState)). EachWas became b (all_shown shown taken)) is
        (subst (λ (f : List (Option V)). EachWas became (all_shown shown slots) (all_shown shown f)) (sym out) (emptied_was shown became stays slots place))

    -- it was put back as what it became
    pub became_by : (final : List (Option V)) (old new : V) → slice_get slots place ≡ Some (Some old) → became (shown old) (shown new) → final ≡ slice_set taken place (Some new) → EachWas became before (all_shown shown final)
    became_by final old new at turned put =
        let put_where_taken = put ∙ ap (λ (s : List (Option V)). slice_set s place (Some new)) out in
        subst (λ (b : List (Option HeldState)). EachWas became b (all_shown shown final)) is
        (subst (λ (f : List (Option V)). EachWas became (all_shown shown slots) (all_shown shown f)) (sym put_where_taken) (exchanged_was shown became stays slots place old new at turned))
