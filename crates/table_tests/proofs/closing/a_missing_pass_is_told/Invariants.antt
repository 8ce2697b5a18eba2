use Rattle.table_tests.proofs.closing.a_missing_pass_is_told.Given as goal

abbrev pub ghosts-without_the_first : goal.ghosts-without_the_first
ghosts-without_the_first g a = record { name = a.blank.name; parts = a.blank.parts }
