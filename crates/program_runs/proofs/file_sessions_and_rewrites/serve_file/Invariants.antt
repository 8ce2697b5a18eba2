use Rattle.program_runs.proofs.file_sessions_and_rewrites.serve_file.Given as goal

-- the ledger that counts the records is the one that the blank names
abbrev pub ghosts-serve_logged : goal.ghosts-serve_logged
ghosts-serve_logged g a = record { name = a.blank.name; parts = a.blank.parts }
