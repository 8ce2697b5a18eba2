use Rattle.table_tests.proofs.cells.a_cell_refuses_shares_of_another_place.Given as goal

abbrev pub ghosts-by_the_wrong_shares : goal.ghosts-by_the_wrong_shares
ghosts-by_the_wrong_shares g a = record { name = a.blank.name; parts = a.blank.parts }
