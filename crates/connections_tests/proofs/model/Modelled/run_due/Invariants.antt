use Rattle.connections_tests.proofs.model.Modelled.run_due.Given as goal

abbrev pub invariant-loop-ran : goal.invariant-loop-ran
invariant-loop-ran g l = g.E.Exec.settled l.exec
