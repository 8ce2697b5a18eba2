use Rattle.std.proofs.Common.{◌≡◌, drop}
use Rattle.std.specs.Io.KnownBytes.{append_known}
use Rattle.session_core.specs.Interleaved.{StateMoves}
use Rattle.connection_turns.specs.declared.connection_in_turns.Stage.TheVariants.{Runs}
use Rattle.connection_turns.specs.ConnectionTurnState.{GoesOn, visit_state}
use Rattle.connection_turns.proofs.connection_in_turns.Visit.run.Given as goal

abbrev pub invariant-loop-count : goal.invariant-loop-count
invariant-loop-count g l = record {
  settled : g.E.Exec.settled l.exec;
  runs : l.self.stage ≡ Runs;
  moves : StateMoves g.E.Exec.allows l.fn.exec l.exec;
  goes_on : GoesOn g.E.Exec.allows (visit_state l.fn.self.stage (g.S.ByteSource.told l.fn.self.source) (append_known (g.D.ByteDrain.told l.fn.self.replies.outbox.drain) (drop l.fn.self.replies.outbox.sent l.fn.self.replies.outbox.held.items)) l.fn.self.session.decoder l.fn.self.session.progress) l.fn.exec
      (visit_state l.self.stage (g.S.ByteSource.told l.self.source) (append_known (g.D.ByteDrain.told l.self.replies.outbox.drain) (drop l.self.replies.outbox.sent l.self.replies.outbox.held.items)) l.self.session.decoder l.self.session.progress) l.exec;
}
