use Rattle.whole_tests.proofs.ample_memory.ask_all.Given as goal

abbrev pub invariant-loop-words : goal.invariant-loop-words
invariant-loop-words g l = g.E.Exec.settled l.exec
