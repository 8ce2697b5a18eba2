-- How the program ends after a session.
use Rattle.std.specs.Prelude.{◌≡◌, ℕ, ◌+◌, ◌-◌, ◌^◌, ◌≤◌, min, List, [], ◌∷◌, Option, None, Some, Result, Ok, Err, MatchResult}
use Rattle.resp_wire.specs.FaultTexts.{number_of}
use Rattle.resp_wire.specs.Response.{Response}
use Rattle.held_replies.specs.declared.held_replies.HeldReplies.{HeldReplies}
use Rattle.session_core.specs.declared.session_end.Ended.{Ended}
use Rattle.session_core.specs.declared.session_end.SessionFault.{SessionFault}
use Rattle.session_core.specs.declared.session_end.SessionFault.TheVariants as ends
use Rattle.session_core.specs.SessionEnd.{Served}
use Rattle.session_core.specs.SendOutcome.{SessionSourceFailed, DrainFailed, SentOn}
use Rattle.exit_lines.specs.DeviceStates.{SourceState, DrainState}
use Rattle.exit_lines.specs.declared.lines_and_statuses.Line.TheVariants as lines
use Rattle.exit_lines.specs.declared.lines_and_statuses.Finish.{Finish}

-- a session that ended so: status 0 at the end of the input, 4 out of memory, else 1 with one line
abbrev pub finish_of : Result Ended SessionFault → Finish
finish_of (Ok ended) = record { status = 0; lines = None ∷ None ∷ [] }
finish_of (Err ends.NoMemory) = record { status = 4; lines = Some lines.OutOfMemory ∷ None ∷ [] }
finish_of (Err ends.ReadFault) = record { status = 1; lines = Some lines.ReadFault ∷ None ∷ [] }
finish_of (Err (ends.WriteFault out)) = record { status = 1; lines = Some (lines.WriteFaultAfter out) ∷ None ∷ [] }
finish_of (Err (ends.Wire fault)) = record { status = 1; lines = Some (lines.ProtocolFault (number_of fault)) ∷ None ∷ [] }
finish_of (Err ends.TooManyReads) = record { status = 1; lines = Some lines.ReadTooOften ∷ None ∷ [] }

-- the most reads of a session
abbrev pub most_reads : ℕ
most_reads = 2 ^ 40

-- a session was served, in which this was said, and the program ends by how it ended; a device's count of failures rose only where the
-- session ends by a fault of that device; the source's reads are told to be too many only after the most of them
pub record Finishes {S : Type 0} (talk : S → List (List (List ℕ)) → List Response → S → Type 0) (start : S)
    (source₀ source₁ : SourceState) (drain₀ drain₁ : DrainState) (finish : Finish) (here : S) : Type 0 where
  pub result : Result Ended SessionFault
  pub served : Served talk start source₀.told source₁.told drain₀.told drain₁.told result here
  pub source_failures : MatchResult result (λ ended. source₁.failures ≡ source₀.failures) (λ end. SessionSourceFailed end source₀.failures source₁.failures)
  pub drain_failures : MatchResult result (λ ended. drain₁.failures ≡ drain₀.failures) (λ end. DrainFailed end drain₀.failures drain₁.failures)
  pub reads : source₁.calls ≤ source₀.calls + most_reads
  pub many : result ≡ Err ends.TooManyReads → min (source₀.calls + most_reads) (2 ^ 64 - 1) ≤ source₁.calls
  pub sent_on : MatchResult result (λ ended. drain₁.flushed ≡ drain₁.told) (λ end. SentOn end drain₁.told drain₁.flushed)
  pub finish_is : finish ≡ finish_of result

-- the state of a drain whose replies are held until the changes before them are synced: what it sent on its inner drain did
abbrev pub held_state : {D A : Type 0} → (HeldReplies D A → Option (List ℕ)) → (D → Option (List ℕ)) → HeldReplies D A → DrainState
held_state told flushed replies = record { told = told replies; flushed = flushed replies.inner; failures = replies.count.failures }
