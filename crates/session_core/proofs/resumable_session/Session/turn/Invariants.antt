use Rattle.std.proofs.Common.{◌≡◌, ◌≤◌, ◌+◌, length}
use Rattle.session_core.specs.ServeSteps.{IsSmall, Halfway}
use Rattle.session_core.proofs.resumable_session.Session.turn.Given as goal

abbrev pub invariant-requests : goal.invariant-requests
invariant-requests g l = record {
  half : Halfway g.E.Exec.allows l.fn.exec l.fn.self.decoder l.fn.self.progress (g.D.ByteDrain.told l.fn.drain) l.exec l.self.decoder l.self.progress (g.D.ByteDrain.told l.drain);
  settled : g.E.Exec.settled l.exec;
  small : IsSmall l.self.decoder l.self.progress;
  good : g.D.ByteDrain.failures l.drain ≡ g.D.ByteDrain.failures l.fn.drain;
  count : l.self.progress.requests ≡ l.fn.self.progress.requests + l.counter;
  shrinks : length l.self.decoder.held + l.self.progress.requests ≤ length l.fn.self.decoder.held + l.fn.self.progress.requests;
}
