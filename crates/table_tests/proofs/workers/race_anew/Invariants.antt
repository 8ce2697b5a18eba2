use Rattle.table_tests.proofs.workers.race_anew.Given as goal

abbrev pub ghosts-race_with : goal.ghosts-race_with
ghosts-race_with g a = record { name = a.blank.name; parts = a.blank.parts }
