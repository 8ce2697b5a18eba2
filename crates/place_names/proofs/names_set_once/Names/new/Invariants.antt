use Rattle.std.proofs.Common.{◌≡◌, length}
use Rattle.place_names.proofs.names_set_once.Names.new.Given as goal

abbrev pub invariant-loop : goal.invariant-loop
invariant-loop l = length l.names.items ≡ l.counter
