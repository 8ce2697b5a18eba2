use Rattle.connections.specs.HeldConnections.{TurnsAreTaken}
use Rattle.connections.proofs.many.Connections.serve_ready.Given as goal

abbrev pub invariant-loop : goal.invariant-loop
invariant-loop g l = TurnsAreTaken g.E.Exec.allows g.E.Exec.settled l.fn.self l.fn.exec l.self l.exec
