use Rattle.std.proofs.Common.{◌≡◌}
use Rattle.connections.proofs.many.Connections.wait.Given as goal

abbrev pub invariant-loop-number : goal.invariant-loop-number
invariant-loop-number g l = l.self ≡ l.fn.self
