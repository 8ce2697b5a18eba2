use Rattle.std.proofs.Common.{◌≡◌, length}
use Rattle.session_core.specs.ServeSteps.{SessionIsBetweenReads, Halfway}
use Rattle.session_core.proofs.resumable_session.Session.answer_held.Given as goal

abbrev pub invariant-turns : goal.invariant-turns
invariant-turns g l = record {
  half : Halfway g.E.Exec.allows l.fn.exec l.fn.self.decoder l.fn.self.progress (g.D.ByteDrain.told l.fn.drain) l.exec l.self.decoder l.self.progress (g.D.ByteDrain.told l.drain);
  settled : g.E.Exec.settled l.exec;
  ready : SessionIsBetweenReads l.self.decoder l.self.progress;
  good : g.D.ByteDrain.failures l.drain ≡ g.D.ByteDrain.failures l.fn.drain;
}

abbrev pub decreases-turns : goal.decreases-turns
decreases-turns g l = length l.self.decoder.held
