use Rattle.connections_tests.proofs.looks.ends.Given as goal

abbrev pub invariant-loop : goal.invariant-loop
invariant-loop g l = g.E.Exec.settled l.exec
