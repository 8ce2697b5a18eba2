-- How connections are counted as they come.
use Rattle.std.specs.Prelude.{ℕ, ◌+◌}
use Rattle.connection_channel.specs.declared.arrivals.Arrival.{Arrival}
use Rattle.connection_channel.specs.declared.arrivals.Arrival.TheVariants.{Came, Closed, Fault}
use Rattle.connection_channel.specs.declared.arrivals.ArrivalKind.{ArrivalKind}
use Rattle.connection_channel.specs.declared.arrivals.ArrivalKind.TheVariants.{Connection, End, Failure}

-- how many connections came, after an answer
abbrev pub came_after : {C : Type 0} → Arrival C → ℕ → ℕ
came_after (Came c) n = n + 1
came_after Closed n = n
came_after Fault n = n

-- what an arrival was
abbrev pub kind_of : {C : Type 0} → Arrival C → ArrivalKind
kind_of (Came c) = Connection
kind_of Closed = End
kind_of Fault = Failure
