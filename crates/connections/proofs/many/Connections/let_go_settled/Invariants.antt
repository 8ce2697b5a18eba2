use Rattle.connections.specs.HeldConnections.{AllMayLeave}
use Rattle.connection_turns.specs.SettledRecords.{RisesBy}
use Rattle.connections.proofs.many.Connections.let_go_settled.Given as goal

abbrev pub invariant-loop-place : goal.invariant-loop-place
invariant-loop-place g l = (AllMayLeave l.self.settled l.fn.self.held l.self.held) × (RisesBy (g.T.Settle.settles l.fn.settler) l.fn.self.settled l.self.settled)
