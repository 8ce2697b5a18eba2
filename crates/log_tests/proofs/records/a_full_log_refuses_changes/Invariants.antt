use Rattle.log_tests.proofs.records.a_full_log_refuses_changes.Given as goal

abbrev pub ghosts-goes_so : goal.ghosts-goes_so
ghosts-goes_so g a = record { name = a.blank.name; parts = a.blank.parts }
