-- Sessions that share an executor, turn by turn: what is said in one of them, among the others.
use Rattle.std.specs.Prelude.{◌≡◌, ℕ, ◌+◌, Bool, true, false, List, [], ◌∷◌, ◌++◌, length, Option, Some, None, Result, Ok, Err}
use Rattle.std.specs.Io.KnownBytes.{append_known, prepend_known, IsAtEnd}
use Rattle.resp_wire.specs.Stream.{requests, rest, fault}
use Rattle.resp_wire.specs.DecoderView.{DecoderView}
use Rattle.resp_wire.specs.Response.{Response}
use Rattle.zset_commands.specs.AbstractCommand.{Asked}
use Rattle.zset_commands.specs.declared.refusal.Refusal.{Refusal}
use Rattle.session_core.specs.declared.session_end.Ended.{Ended}
use Rattle.session_core.specs.declared.session_end.SessionFault.{SessionFault}
use Rattle.session_core.specs.declared.session_end.SessionFault.TheVariants.{NoMemory, ReadFault, TooManyReads}
use Rattle.session_core.specs.declared.resumable_session.Progress.{Progress}
use Rattle.session_core.specs.Exchange.{Exchange, Exchanges}
use Rattle.session_core.specs.SessionEnd.{Replied, Served}
use Rattle.session_core.specs.ServeSteps.{SessionUnderway, Answered, Halfway, Halted, fed}

-- the first of the requests that were read are answered, and the others are held
pub record PartWay {S : Type 0} (talk : S → List (List (List ℕ)) → List Response → S → Type 0) (start : S) (source₀ source₁ drain₀ drain₁ : Option (List ℕ)) (here : S) (wire : DecoderView) (progress : Progress) : Type 0 where
  pub read : List ℕ
  pub written : List ℕ
  pub given : List (List (List ℕ))
  pub read_is : source₀ ≡ prepend_known read source₁
  pub written_is : drain₁ ≡ append_known drain₀ written
  pub replied : Replied talk start given written here
  pub requests_are : requests read ≡ given ++ requests wire.held
  pub rest_is : rest read ≡ rest wire.held
  pub fault_is : fault read ≡ fault wire.held
  pub unfaulted : wire.fault ≡ None
  pub out_is : progress.out ≡ length written
  pub count_is : progress.requests ≡ length given

-- requests, of whichever session, led from one state to the other
pub record StateMoves {S : Type 0} (allows : S → Asked → Result Response Refusal → S → Type 0) (old new : S) : Type 0 where
  pub requests : List (List (List ℕ))
  pub replies : List Response
  pub exchanges : Exchanges allows old requests replies new

-- requests in turn, each with its reply; before each of them, and behind the last, the state may have gone this way
module _ {S : Type 0} (allows : S → Asked → Result Response Refusal → S → Type 0) (between : S → S → Type 0) where
  abbrev pub TalkBetween : S → List (List (List ℕ)) → List Response → S → Type 0
  TalkBetween old [] [] new = between old new
  TalkBetween old (words ∷ requests) (reply ∷ replies) new = (before : S) × (after : S) × between old before × Exchange allows before words reply after × TalkBetween after requests replies new
  TalkBetween old [] (reply ∷ replies) new = ⊥
  TalkBetween old (words ∷ requests) [] new = ⊥

module _ {S : Type 0} (allows : S → Asked → Result Response Refusal → S → Type 0) where
  -- what is said in one session, where others may be served between
  abbrev pub Talk : S → List (List (List ℕ)) → List Response → S → Type 0
  Talk = TalkBetween allows (StateMoves allows)

  -- a turn: all requests that are held were answered, or the first of them, or the session ended at them
  abbrev pub Turn : S → DecoderView → Progress → Option (List ℕ) → Result Bool SessionFault → S → DecoderView → Progress → Option (List ℕ) → Type 0
  Turn start wire progress told (Ok true) here new after now = Answered allows start wire progress told here new after now
  Turn start wire progress told (Ok false) here new after now = Halfway allows start wire progress told here new after now
  Turn start wire progress told (Err end) here new after now = Halted allows start (requests wire.held) (fault wire.held) progress.out told end here now

  -- what is known of a session behind a turn: all that was read is answered, or a part, or it has ended
  abbrev pub Follows : S → Option (List ℕ) → Option (List ℕ) → Option (List ℕ) → Option (List ℕ) → Result Bool SessionFault → S → DecoderView → Progress → Type 0
  Follows start source₀ source₁ drain₀ drain₁ (Ok true) here wire progress = SessionUnderway Talk start source₀ source₁ drain₀ drain₁ here wire progress
  Follows start source₀ source₁ drain₀ drain₁ (Ok false) here wire progress = PartWay Talk start source₀ source₁ drain₀ drain₁ here wire progress
  Follows start source₀ source₁ drain₀ drain₁ (Err end) here wire progress = Served Talk start source₀ source₁ drain₀ drain₁ (Err end) here

  -- sessions may take turns: whatever others were served between its turns, a session goes on and ends as one that is
  -- served alone, its exchanges standing among theirs
  pub record TakesTurns : Type 0 where
    -- a session begins
    pub begins : (start : S) (source drain : Option (List ℕ)) → SessionUnderway Talk start source source drain drain start (record { held = []; taken = 0; fault = None }) (record { requests = 0; out = 0 })
    -- others are served
    pub waits : (start before here : S) (source₀ source₁ drain₀ drain₁ : Option (List ℕ)) (wire : DecoderView) (progress : Progress)
        → SessionUnderway Talk start source₀ source₁ drain₀ drain₁ before wire progress → StateMoves allows before here → SessionUnderway Talk start source₀ source₁ drain₀ drain₁ here wire progress
    pub waits_part : (start before here : S) (source₀ source₁ drain₀ drain₁ : Option (List ℕ)) (wire : DecoderView) (progress : Progress)
        → PartWay Talk start source₀ source₁ drain₀ drain₁ before wire progress → StateMoves allows before here → PartWay Talk start source₀ source₁ drain₀ drain₁ here wire progress
    pub waits_ended : (start before here : S) (source₀ source₁ drain₀ drain₁ : Option (List ℕ)) (result : Result Ended SessionFault)
        → Served Talk start source₀ source₁ drain₀ drain₁ result before → StateMoves allows before here → Served Talk start source₀ source₁ drain₀ drain₁ result here
    -- a piece is read
    pub reads : (start here : S) (source₀ source₁ source₂ drain₀ drain₁ : Option (List ℕ)) (wire : DecoderView) (progress : Progress) (piece : List ℕ)
        → SessionUnderway Talk start source₀ source₁ drain₀ drain₁ here wire progress → source₁ ≡ prepend_known piece source₂
        → PartWay Talk start source₀ source₂ drain₀ drain₁ here (fed wire piece) progress
    -- a turn
    pub turns : (start here there : S) (source₀ source₁ drain₀ drain₁ drain₂ : Option (List ℕ)) (wire new : DecoderView) (progress after : Progress) (result : Result Bool SessionFault)
        → PartWay Talk start source₀ source₁ drain₀ drain₁ here wire progress → Turn here wire progress drain₁ result there new after drain₂
        → Follows start source₀ source₁ drain₀ drain₂ result there new after
    -- the input is at its end
    pub ends : (start here : S) (source₀ source₁ source₂ drain₀ drain₁ : Option (List ℕ)) (wire : DecoderView) (progress : Progress) (ended : Ended)
        → SessionUnderway Talk start source₀ source₁ drain₀ drain₁ here wire progress → source₁ ≡ prepend_known [] source₂ → IsAtEnd source₂
        → ended.requests ≡ progress.requests → ended.rest ≡ length wire.held
        → Served Talk start source₀ source₂ drain₀ drain₁ (Ok ended) here
    -- the source fails, or was read as often as allowed
    pub breaks : (start here : S) (source₀ source₁ source₂ drain₀ drain₁ : Option (List ℕ)) (wire : DecoderView) (progress : Progress)
        → SessionUnderway Talk start source₀ source₁ drain₀ drain₁ here wire progress → source₁ ≡ prepend_known [] source₂
        → Served Talk start source₀ source₂ drain₀ drain₁ (Err ReadFault) here × Served Talk start source₀ source₂ drain₀ drain₁ (Err TooManyReads) here
    -- there is no memory for a piece that was read
    pub lacks : (start here : S) (source₀ source₁ source₂ drain₀ drain₁ : Option (List ℕ)) (wire : DecoderView) (progress : Progress) (piece : List ℕ)
        → SessionUnderway Talk start source₀ source₁ drain₀ drain₁ here wire progress → source₁ ≡ prepend_known piece source₂
        → Served Talk start source₀ source₂ drain₀ drain₁ (Err NoMemory) here
