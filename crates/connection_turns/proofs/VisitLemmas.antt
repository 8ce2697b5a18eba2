-- How a visit goes on from step to step.
use Rattle.std.proofs.Common.{◌≡◌, List, ℕ, sym, subst, Option, Result, Bool, true, false, Ok, Err, inl, inr}
use Rattle.std.specs.Io.KnownBytes.{prepend_known}
use Rattle.resp_wire.specs.DecoderView.{DecoderView}
use Rattle.resp_wire.specs.Response.{Response}
use Rattle.zset_commands.specs.AbstractCommand.{Asked}
use Rattle.zset_commands.specs.declared.refusal.Refusal.{Refusal}
use Rattle.session_core.specs.declared.session_end.SessionFault.{SessionFault}
use Rattle.session_core.specs.declared.resumable_session.Progress.{Progress}
use Rattle.session_core.specs.ServeSteps.{SessionUnderway}
use Rattle.session_core.specs.Interleaved.{PartWay, StateMoves, Talk, Turn, TakesTurns}
use Rattle.session_core.proofs.Interleaving.{moves-trans, moved_by}
use Rattle.connection_turns.specs.declared.connection_in_turns.Stage.{Stage}
use Rattle.connection_turns.specs.declared.connection_in_turns.Stage.TheVariants.{Reads, Runs, Ended}
use Rattle.connection_turns.specs.ConnectionTurnState.{IsTaken, Stands, GoesOn, VisitState, visit_state}

module _ {S : Type 0} (allows : S → Asked → Result Response Refusal → S → Type 0) where
  -- a piece was read
  pub takes : TakesTurns allows → (start here : S) (source₀ source₁ source₂ source₃ drain₀ drain₁ drain₂ : Option (List ℕ)) (wire new : DecoderView) (progress after : Progress) (old stage : Stage) (piece : List ℕ)
      → old ≡ Reads → Stands allows start source₀ drain₀ (visit_state old source₁ drain₁ wire progress) here → source₁ ≡ prepend_known piece source₂
      → source₃ ≡ source₂ → drain₂ ≡ drain₁ → after ≡ progress → IsTaken piece stage wire new
      → Stands allows start source₀ drain₀ (visit_state stage source₃ drain₂ new after) here
  takes law start here source₀ source₁ source₂ source₃ drain₀ drain₁ drain₂ wire new progress after old stage piece is stands given same_source same_drain same_progress taken =
      let way : SessionUnderway (Talk allows) start source₀ source₁ drain₀ drain₁ here wire progress = subst (λ (s : Stage). Stands allows start source₀ drain₀ (visit_state s source₁ drain₁ wire progress) here) is stands in
      subst (λ (s : Option (List ℕ)). Stands allows start source₀ drain₀ (visit_state stage s drain₂ new after) here) (sym same_source)
      (subst (λ (d : Option (List ℕ)). Stands allows start source₀ drain₀ (visit_state stage source₂ d new after) here) (sym same_drain)
      (subst (λ (p : Progress). Stands allows start source₀ drain₀ (visit_state stage source₂ drain₁ new p) here) (sym same_progress) (by_taken taken way)))
    where
      by_taken : IsTaken piece stage wire new → SessionUnderway (Talk allows) start source₀ source₁ drain₀ drain₁ here wire progress → Stands allows start source₀ drain₀ (visit_state stage source₂ drain₁ new progress) here
      by_taken (inl (runs, fed_is)) way =
          subst (λ (s : Stage). Stands allows start source₀ drain₀ (visit_state s source₂ drain₁ new progress) here) (sym runs)
          (subst (λ (w : DecoderView). PartWay (Talk allows) start source₀ source₂ drain₀ drain₁ here w progress) (sym fed_is) (law.reads start here source₀ source₁ source₂ drain₀ drain₁ wire progress piece way given))
      by_taken (inr ended) way =
          subst (λ (s : Stage). Stands allows start source₀ drain₀ (visit_state s source₂ drain₁ new progress) here) (sym ended)
          (law.lacks start here source₀ source₁ source₂ drain₀ drain₁ wire progress piece way given)

  -- the stage behind a turn
  abbrev pub stage_after : Result Bool SessionFault → Stage
  stage_after (Ok true) = Reads
  stage_after (Ok false) = Runs
  stage_after (Err end) = Ended (Err end)

  -- a turn of a visit that runs
  pub runs_on : TakesTurns allows → (first : Stage) (source_first drain_first : Option (List ℕ)) (wire_first : DecoderView) (progress_first : Progress) (begun : S) (source drain drain₁ : Option (List ℕ)) (here there : S) (wire new : DecoderView) (progress after : Progress) (old_stage stage : Stage) (result : Result Bool SessionFault)
      → old_stage ≡ Runs → GoesOn allows (visit_state first source_first drain_first wire_first progress_first) begun (visit_state old_stage source drain wire progress) here → Turn allows here wire progress drain result there new after drain₁ → stage ≡ stage_after result
      → GoesOn allows (visit_state first source_first drain_first wire_first progress_first) begun (visit_state stage source drain₁ new after) there
  runs_on law first source_first drain_first wire_first progress_first begun source drain drain₁ here there wire new progress after old_stage stage result runs goes turn is start source₀ drain₀ stands =
      subst (λ (s : Stage). Stands allows start source₀ drain₀ (visit_state s source drain₁ new after) there) (sym is)
      (follows result turn (subst (λ (s : Stage). Stands allows start source₀ drain₀ (visit_state s source drain wire progress) here) runs (goes start source₀ drain₀ stands)))
    where
      follows : (result : Result Bool SessionFault) → Turn allows here wire progress drain result there new after drain₁ → PartWay (Talk allows) start source₀ source drain₀ drain here wire progress → Stands allows start source₀ drain₀ (visit_state (stage_after result) source drain₁ new after) there
      follows (Ok true) turn part = law.turns start here there source₀ source drain₀ drain drain₁ wire new progress after (Ok true) part turn
      follows (Ok false) turn part = law.turns start here there source₀ source drain₀ drain drain₁ wire new progress after (Ok false) part turn
      follows (Err end) turn part = law.turns start here there source₀ source drain₀ drain drain₁ wire new progress after (Err end) part turn

  pub moves_on : (begun here there : S) (drain drain₁ : Option (List ℕ)) (wire new : DecoderView) (progress after : Progress) (result : Result Bool SessionFault)
      → StateMoves allows begun here → Turn allows here wire progress drain result there new after drain₁ → StateMoves allows begun there
  moves_on begun here there drain drain₁ wire new progress after result moves turn =
      moves-trans allows begun here there moves (moved_by allows here there drain drain₁ wire new progress after result turn)

  -- nothing that is known of a visit moved
  pub same_goes : (old new : VisitState) → new ≡ old → (here : S) → GoesOn allows old here new here
  same_goes old new same here start source₀ drain₀ stands = subst (λ (v : VisitState). Stands allows start source₀ drain₀ v here) (sym same) stands

  -- what the connections share was left as it was
  pub goes_still : (old new : VisitState) (here there after : S) → after ≡ there → GoesOn allows old here new there → GoesOn allows old here new after
  goes_still old new here there after same goes = subst (λ (now : S). GoesOn allows old here new now) (sym same) goes
