use Rattle.std.proofs.Common.{◌≡◌}
use Rattle.connections.specs.HeldConnections.{HaveLeft}
use Rattle.connections.proofs.many.Connections.end_silent.Given as goal

abbrev pub invariant-loop-place : goal.invariant-loop-place
invariant-loop-place g l = record { left : HaveLeft l.fn.self.held l.self.held; settled : l.self.settled ≡ l.fn.self.settled }
