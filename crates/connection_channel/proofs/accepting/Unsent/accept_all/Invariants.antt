use Rattle.std.proofs.Common.{◌≡◌, ◌≤◌, ◌+◌}
use Rattle.std.specs.Prelude.{Some, vec_capacity}
use Rattle.crossbeam_channel.specs.Claims.{view, IsSeatAt}
use Rattle.crossbeam_channel.specs.Ends.{sends_on}
use Rattle.connection_channel.specs.declared.arrivals.ArrivalKind.TheVariants.{Connection}
use Rattle.connection_channel.proofs.Steps.{Sending}
use Rattle.connection_channel.proofs.accepting.Unsent.accept_all.Given as goal

abbrev pub invariant-loop-number : goal.invariant-loop-number
invariant-loop-number g l = IsSeatAt (sends_on l.ends.sender) l.pass
    × Sending (view l.fn.pass).parts l.self.is_open l.number (view l.fn.pass).stops (view l.fn.pass).taken (view l.pass) l.self.numbers.items
    × (g.A.Arrivals.came l.arrivals ≡ g.A.Arrivals.came l.fn.arrivals + l.number)
    × (vec_capacity l.self.numbers ≡ vec_capacity l.fn.self.numbers)
    × (1 ≤ l.number → g.A.Arrivals.last l.arrivals ≡ Some Connection)
