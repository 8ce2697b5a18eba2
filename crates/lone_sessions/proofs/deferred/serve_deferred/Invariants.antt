use Rattle.std.proofs.Common.{◌≡◌, ◌≤◌, ◌+◌, ◌*◌, ◌-◌, ◌^◌, length}
use Rattle.std.specs.Prelude.{min}
use Rattle.std.specs.Io.KnownBytes.{append_known}
use Rattle.session_core.specs.ServeSteps.{SessionUnderway}
use Rattle.lone_sessions.specs.ExchangesBetweenSyncs.{TalkBetweenSyncs}
use Rattle.lone_sessions.proofs.deferred.serve_deferred.Given as goal

abbrev pub invariant-reads : goal.invariant-reads
invariant-reads g l = record {
  way : SessionUnderway TalkBetweenSyncs l.fn.owner (g.S.ByteSource.told l.fn.source) (g.S.ByteSource.told l.source) (append_known (g.D.ByteDrain.told l.fn.replies.inner) l.fn.replies.held.items) (append_known (g.D.ByteDrain.told l.replies.inner) l.replies.held.items) l.owner l.session.decoder l.session.progress;
  slice : length l.piece.items ≡ 16384;
  bytes : l.session.decoder.taken + length l.session.decoder.held ≤ l.counter * 65536;
  requests : l.session.progress.requests ≤ l.session.decoder.taken;
  out : l.session.progress.out ≤ l.session.progress.requests * 2 ^ 64;
  few : g.S.ByteSource.calls l.source ≤ g.S.ByteSource.calls l.fn.source + l.counter;
  many : min (g.S.ByteSource.calls l.fn.source + l.counter) (2 ^ 64 - 1) ≤ g.S.ByteSource.calls l.source;
  source_good : g.S.ByteSource.failures l.source ≡ g.S.ByteSource.failures l.fn.source;
  drain_good : l.replies.count.failures ≡ l.fn.replies.count.failures;
}
