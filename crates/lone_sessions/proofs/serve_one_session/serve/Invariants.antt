use Rattle.std.proofs.Common.{◌≡◌, ◌≤◌, ◌+◌, ◌*◌, ◌-◌, ◌^◌, length}
use Rattle.std.specs.Prelude.{min}
use Rattle.session_core.specs.Exchange.{Exchanges}
use Rattle.session_core.specs.ServeSteps.{SessionUnderway}
use Rattle.lone_sessions.proofs.serve_one_session.serve.Given as goal

abbrev pub invariant-reads : goal.invariant-reads
invariant-reads g l = record {
  way : SessionUnderway (Exchanges g.E.Exec.allows) l.fn.exec (g.S.ByteSource.told l.fn.source) (g.S.ByteSource.told l.source) (g.D.ByteDrain.told l.fn.drain) (g.D.ByteDrain.told l.drain) l.exec l.session.decoder l.session.progress;
  slice : length l.piece.items ≡ l.buffer;
  settled : g.E.Exec.settled l.exec;
  bytes : l.session.decoder.taken + length l.session.decoder.held ≤ l.counter * 65536;
  requests : l.session.progress.requests ≤ l.session.decoder.taken;
  out : l.session.progress.out ≤ l.session.progress.requests * 2 ^ 64;
  few : g.S.ByteSource.calls l.source ≤ g.S.ByteSource.calls l.fn.source + l.counter;
  many : min (g.S.ByteSource.calls l.fn.source + l.counter) (2 ^ 64 - 1) ≤ g.S.ByteSource.calls l.source;
  source_good : g.S.ByteSource.failures l.source ≡ g.S.ByteSource.failures l.fn.source;
  drain_good : g.D.ByteDrain.failures l.drain ≡ g.D.ByteDrain.failures l.fn.drain;
}
