use Rattle.connections.specs.HeldConnections.{TurnsAreTaken}
use Rattle.connections.proofs.many.Connections.serve.Given as goal

abbrev pub invariant-loop-part : goal.invariant-loop-part
invariant-loop-part g l = TurnsAreTaken g.E.Exec.allows g.E.Exec.settled l.fn.self l.fn.exec l.self l.exec
