use Rattle.whole_tests.proofs.cells.refused.Given as goal

abbrev pub ghosts-refuse : goal.ghosts-refuse
ghosts-refuse g a = record { name = a.blank.name; parts = a.blank.parts }
