use Rattle.std.proofs.Common.{◌≡◌, ℕ, ◌+◌, List, Option, length}
use Rattle.std.specs.Io.KnownBytes.{append_known}
use Rattle.append_log.specs.LoggedOwnerViewAndRuns.{LoggedView}
use Rattle.session_core.specs.ServeSteps.{SessionIsBetweenReads}
use Rattle.session_core.specs.Interleaved.{PartWay}
use Rattle.lone_sessions.specs.ExchangesBetweenSyncs.{TalkBetweenSyncs}
use Rattle.lone_sessions.proofs.deferred.answer_deferred.Given as goal

abbrev pub invariant-turns : goal.invariant-turns
invariant-turns g l = record {
  part : (start : LoggedView) (source₀ source drain₀ : Option (List ℕ)) → PartWay TalkBetweenSyncs start source₀ source drain₀ (append_known (g.D.ByteDrain.told l.fn.replies.inner) l.fn.replies.held.items) l.fn.owner l.fn.session.decoder l.fn.session.progress
      → PartWay TalkBetweenSyncs start source₀ source drain₀ (append_known (g.D.ByteDrain.told l.replies.inner) l.replies.held.items) l.owner l.session.decoder l.session.progress;
  ready : SessionIsBetweenReads l.session.decoder l.session.progress;
  bytes : l.session.decoder.taken + length l.session.decoder.held ≡ l.fn.session.decoder.taken + length l.fn.session.decoder.held;
  good : l.replies.count.failures ≡ l.fn.replies.count.failures;
}

abbrev pub decreases-turns : goal.decreases-turns
decreases-turns g l = length l.session.decoder.held
