-- How many bytes of a sink are safe.
use Rattle.std.specs.Prelude.{ℕ, List, length, Option, None, Some, Result, Ok, Err}

-- the number of told bytes that stood at the last good sync, after a sync with this result
abbrev pub synced_after : {T E : Type 0} → ℕ → Option (List ℕ) → Result T E → ℕ
synced_after count (Some bytes) (Ok _) = length bytes
synced_after count None (Ok _) = count
synced_after count told (Err _) = count
