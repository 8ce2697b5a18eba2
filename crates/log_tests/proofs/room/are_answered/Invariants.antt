use Rattle.log_tests.proofs.room.are_answered.Given as goal

abbrev pub ghosts-answers_over : goal.ghosts-answers_over
ghosts-answers_over a = record { name = a.blank.name; parts = a.blank.parts }
