use Rattle.log_tests.proofs.want_of_memory.change_refused.Given as goal

abbrev pub ghosts-change_anew : goal.ghosts-change_anew
ghosts-change_anew a = record { name = a.blank.name; parts = a.blank.parts }
