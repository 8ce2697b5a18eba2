use Rattle.tcp_server.proofs.startup.serve_address.Given as goal

-- the ledger that counts the records is the one that the blank names
abbrev pub ghosts-serve_stock : goal.ghosts-serve_stock
ghosts-serve_stock g a = record { name = a.blank.name; parts = a.blank.parts }
