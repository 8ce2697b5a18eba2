use Rattle.program_runs.proofs.group_commit_session.serve_group.Given as goal

-- the ledger that counts the records is the one that the blank names
abbrev pub ghosts-serve_shared : goal.ghosts-serve_shared
ghosts-serve_shared g a = record { name = a.blank.name; parts = a.blank.parts }
