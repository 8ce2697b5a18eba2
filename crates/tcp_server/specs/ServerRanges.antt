-- The ranges of the numbers that a command line asks of a server, and what a timeout is.
use Rattle.std.specs.Prelude.{◌≡◌, ℕ, ◌*◌, ◌<◌, ◌≤◌, Option, None, Some}
use Rattle.std.specs.Duration.{as_nanos}
use Rattle.std.specs.declared.time.Duration.{Duration}
use Rattle.command_line.specs.declared.limits.TheConstants.{MAX_CLIENTS, MAX_CONNECTIONS, MAX_PLACES, MAX_RECORDS, MAX_WORKERS}
use Rattle.command_line.specs.declared.serve.ServeTask.{ServeTask}

-- how many workers, keys and connections a server may have
abbrev pub AreSettings : ℕ → ℕ → ℕ → Type 0
AreSettings workers places connections =
    ((1 ≤ workers) × (workers ≤ MAX_WORKERS)) × ((1 ≤ places) × (places ≤ MAX_PLACES)) × ((1 ≤ connections) × (connections ≤ MAX_CONNECTIONS))

-- each number lies in its range
abbrev pub IsInRange : ServeTask → Type 0
IsInRange task =
    AreSettings task.workers task.places task.connections × ((1 ≤ task.max_records) × (task.max_records ≤ MAX_RECORDS))
    × ((1 ≤ task.max_clients) × (task.max_clients ≤ MAX_CLIENTS))

-- a timeout of so many seconds; 0 is none
abbrev pub IsTimeout : ℕ → Option Duration → Type 0
IsTimeout seconds None = seconds ≡ 0
IsTimeout seconds (Some length) = (0 < seconds) × (as_nanos length ≡ seconds * 1000000000)
