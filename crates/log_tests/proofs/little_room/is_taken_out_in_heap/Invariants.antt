use Rattle.log_tests.proofs.little_room.is_taken_out_in_heap.Given as goal

abbrev pub ghosts-is_taken_out_anew : goal.ghosts-is_taken_out_anew
ghosts-is_taken_out_anew a = record { name = a.blank.name; parts = a.blank.parts }
