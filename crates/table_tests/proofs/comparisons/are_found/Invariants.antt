use Rattle.table_tests.proofs.comparisons.are_found.Given as goal

abbrev pub ghosts-in_full_table : goal.ghosts-in_full_table
ghosts-in_full_table a = record { name = a.blank.name; parts = a.blank.parts }
