use Rattle.connections_tests.proofs.served.play.Given as goal

abbrev pub invariant-loop-turn : goal.invariant-loop-turn
invariant-loop-turn g l = g.E.Exec.settled l.exec
