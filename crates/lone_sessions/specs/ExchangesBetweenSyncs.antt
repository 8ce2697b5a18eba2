-- A session of an owner whose log is synced now and then, and not with each change.
use Rattle.std.specs.Prelude.{ℕ, List, Option, Some, None, Result, Ok, Err}
use Rattle.resp_wire.specs.DecoderView.{DecoderView}
use Rattle.resp_wire.specs.Response.{Response}
use Rattle.append_log.specs.LoggedOwnerViewAndRuns.{LoggedView}
use Rattle.held_replies.specs.OwnerSync.{IsSynced}
use Rattle.append_log.specs.LoggedAnswers.{LoggedAnswers}
use Rattle.session_core.specs.declared.session_end.Ended.{Ended}
use Rattle.session_core.specs.declared.session_end.SessionFault.{SessionFault}
use Rattle.session_core.specs.declared.resumable_session.Progress.{Progress}
use Rattle.session_core.specs.SessionEnd.{Served}
use Rattle.session_core.specs.ServeSteps.{SessionUnderway}
use Rattle.session_core.specs.Interleaved.{TalkBetween}

-- requests in turn, each with its reply; before each of them, and behind the last, the log may be synced
abbrev pub TalkBetweenSyncs : LoggedView → List (List (List ℕ)) → List Response → LoggedView → Type 0
TalkBetweenSyncs = TalkBetween LoggedAnswers IsSynced

-- what is known of a session behind a read: all that was read is answered, or it has ended
module _ (start : LoggedView) (source₀ source₁ drain₀ drain₁ : Option (List ℕ)) where
  abbrev pub IsAt : Result (Option Ended) SessionFault → LoggedView → DecoderView → Progress → Type 0
  IsAt (Ok None) here wire progress = SessionUnderway TalkBetweenSyncs start source₀ source₁ drain₀ drain₁ here wire progress
  IsAt (Ok (Some ended)) here wire progress = Served TalkBetweenSyncs start source₀ source₁ drain₀ drain₁ (Ok ended) here
  IsAt (Err end) here wire progress = Served TalkBetweenSyncs start source₀ source₁ drain₀ drain₁ (Err end) here

  -- the same behind requests that were held
  abbrev pub IsPast : Result Unit SessionFault → LoggedView → DecoderView → Progress → Type 0
  IsPast (Ok unit) here wire progress = SessionUnderway TalkBetweenSyncs start source₀ source₁ drain₀ drain₁ here wire progress
  IsPast (Err end) here wire progress = Served TalkBetweenSyncs start source₀ source₁ drain₀ drain₁ (Err end) here
