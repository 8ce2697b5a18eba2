-- What is known of a connection that is served turn by turn, among others.
use Rattle.std.specs.Prelude.{◌≡◌, ℕ, ◌+◌, ◌*◌, ◌≤◌, ◌<◌, ◌⊎◌, ◌^◌, List, [], length, drop, Option, None, Result, Err}
use Rattle.std.specs.Io.KnownBytes.{append_known}
use Rattle.resp_wire.specs.DecoderView.{DecoderView}
use Rattle.resp_wire.specs.declared.outbox.Outbox.{Outbox}
use Rattle.resp_wire.specs.Response.{Response}
use Rattle.zset_commands.specs.AbstractCommand.{Asked}
use Rattle.zset_commands.specs.declared.refusal.Refusal.{Refusal}
use Rattle.session_core.specs.declared.session_end.SessionFault.TheVariants.{NoMemory, TooManyReads}
use Rattle.session_core.specs.declared.resumable_session.Progress.{Progress}
use Rattle.session_core.specs.SessionEnd.{Served}
use Rattle.session_core.specs.ServeSteps.{SessionIsBetweenReads, SessionUnderway, fed}
use Rattle.session_core.specs.Interleaved.{PartWay, Talk}
use Rattle.connection_turns.specs.declared.connection_in_turns.Next.{Next}
use Rattle.connection_turns.specs.declared.connection_in_turns.Next.TheVariants.{Settles}
use Rattle.connection_turns.specs.declared.connection_in_turns.Stage.{Stage}
use Rattle.connection_turns.specs.declared.connection_in_turns.Stage.TheVariants.{Reads, Runs, Ended}

-- a session can go on, and its numbers are small: so many pieces came, of 65,536 bytes at most
pub record IsOpen (wire : DecoderView) (progress : Progress) (pieces : ℕ) : Type 0 where
  pub ready : SessionIsBetweenReads wire progress
  pub bytes : wire.taken + length wire.held ≤ pieces * 65536

-- a visit that has not ended can go on
pub record VisitIsSound (stage : Stage) (wire : DecoderView) (progress : Progress) (pieces : ℕ) : Type 0 where
  pub reads : stage ≡ Reads → IsOpen wire progress pieces
  pub runs : stage ≡ Runs → IsOpen wire progress pieces
  pub few : pieces ≤ 2 ^ 40
  -- a source is told to be read too often only after the most reads of it
  pub many : stage ≡ Ended (Err TooManyReads) → 2 ^ 40 ≤ pieces

-- a piece was fed, or there was no memory for it
abbrev pub IsTaken : List ℕ → Stage → DecoderView → DecoderView → Type 0
IsTaken piece stage old new = ((stage ≡ Runs) × (new ≡ fed old piece)) ⊎ (stage ≡ Ended (Err NoMemory))

-- what a visit shows of itself: how far it is, the bytes of its devices as far as they are known, and its session
pub record VisitState : Type 0 where
  pub stage : Stage
  pub source : Option (List ℕ)
  pub drain : Option (List ℕ)
  pub wire : DecoderView
  pub progress : Progress

module _ {S : Type 0} (allows : S → Asked → Result Response Refusal → S → Type 0) (start : S) (source₀ drain₀ : Option (List ℕ)) where
  -- how a visit stands that began with these devices and this state of what it shares with others: all that was read is
  -- answered, or a part, or it has ended as a session ends that is served alone, its exchanges standing among theirs
  abbrev VisitStandsAt : Stage → Option (List ℕ) → Option (List ℕ) → S → DecoderView → Progress → Type 0
  VisitStandsAt Reads source drain here wire progress = SessionUnderway (Talk allows) start source₀ source drain₀ drain here wire progress
  VisitStandsAt Runs source drain here wire progress = PartWay (Talk allows) start source₀ source drain₀ drain here wire progress
  VisitStandsAt (Ended result) source drain here wire progress = Served (Talk allows) start source₀ source drain₀ drain result here

  abbrev pub Stands : VisitState → S → Type 0
  Stands visit here = VisitStandsAt visit.stage visit.source visit.drain here visit.wire visit.progress

-- what an outbox tells: what its drain took, and behind it what is held
abbrev pub told_by_outbox : {D A : Type 0} → (D → Option (List ℕ)) → Outbox D A → Option (List ℕ)
told_by_outbox told outbox = append_known (told outbox.drain) (drop outbox.sent outbox.held.items)

abbrev pub visit_state : Stage → Option (List ℕ) → Option (List ℕ) → DecoderView → Progress → VisitState
visit_state stage source drain wire progress = record { stage = stage; source = source; drain = drain; wire = wire; progress = progress }

-- a visit that has not begun
abbrev pub new_state : Option (List ℕ) → Option (List ℕ) → VisitState
new_state source drain = visit_state Reads source drain (record { held = []; taken = 0; fault = None }) (record { requests = 0; out = 0 })

module _ {S : Type 0} (allows : S → Asked → Result Response Refusal → S → Type 0) where
  -- whatever is known of a visit holds on, with what was done in between
  abbrev pub GoesOn : VisitState → S → VisitState → S → Type 0
  GoesOn old here new there = (start : S) (source₀ drain₀ : Option (List ℕ)) → Stands allows start source₀ drain₀ old here → Stands allows start source₀ drain₀ new there

  -- a visit stands as one does that began in some state, before devices that told some bytes
  abbrev pub HasBegun : S → VisitState → Type 0
  HasBegun here visit = (start : S) × (source₀ : Option (List ℕ)) × (drain₀ : Option (List ℕ)) × Stands allows start source₀ drain₀ visit here

-- replies wait where they may tell of a record behind those that are settled
abbrev pub WaitsForTold : (ℕ → Type 0) → ℕ → Next → ℕ → Type 0
WaitsForTold tells settled next awaited = (told : ℕ) × tells told × (settled < told → (next ≡ Settles) × (awaited ≡ told))
