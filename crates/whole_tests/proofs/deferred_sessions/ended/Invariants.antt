use Rattle.whole_tests.proofs.deferred_sessions.ended.Given as goal

abbrev pub ghosts-served : goal.ghosts-served
ghosts-served a = record { name = a.blank.name; parts = a.blank.parts }
