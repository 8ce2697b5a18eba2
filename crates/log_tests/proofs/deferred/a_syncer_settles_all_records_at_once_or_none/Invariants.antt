use Rattle.log_tests.proofs.deferred.a_syncer_settles_all_records_at_once_or_none.Given as goal

abbrev pub ghosts-settled_anew : goal.ghosts-settled_anew
ghosts-settled_anew g a = record { name = a.blank.name; parts = a.blank.parts }
