-- How far a rewrite came, and what its bytes replay to.
use Rattle.std.specs.Prelude.{◌≡◌, ℕ, List, [], ◌++◌, Option, Result, Ok, Err}
use Rattle.std.specs.FinMap as fin
use Rattle.std.specs.Io.KnownBytes.{append_known}
use Rattle.resp_wire.specs.Device.{Rose}
use Rattle.resp_wire.specs.Stream.{rest}
use Rattle.zset_core.specs.SetsByKey.{World}
use Rattle.log_records.specs.ReloadOutcome.{AllReplayed}
use Rattle.log_records.specs.declared.dumping.RewriteFault.{RewriteFault}
use Rattle.log_records.specs.declared.dumping.RewriteFault.TheVariants.{NoMemory, Sink}

-- a prefix of these bytes was written, perhaps none or all of them
pub record TakesPrefix (old new : Option (List ℕ)) (bytes : List ℕ) : Type 0 where
  pub out : List ℕ
  pub more : List ℕ
  pub whole : out ++ more ≡ bytes
  pub told : new ≡ append_known old out

-- a sink's count of failures rose exactly where the rewrite ends by a fault of the sink
abbrev pub SinkFailed : RewriteFault → ℕ → ℕ → Type 0
SinkFailed NoMemory old new = new ≡ old
SinkFailed Sink old new = Rose old new

-- these bytes were written; or a front of them, before the memory or the sink gave out
abbrev pub Writes : {T : Type 0} → Result T RewriteFault → Option (List ℕ) → Option (List ℕ) → ℕ → ℕ → List ℕ → Type 0
Writes (Ok _) told₀ told₁ failures₀ failures₁ bytes = (told₁ ≡ append_known told₀ bytes) × (failures₁ ≡ failures₀)
Writes (Err fault) told₀ told₁ failures₀ failures₁ bytes = TakesPrefix told₀ told₁ bytes × SinkFailed fault failures₀ failures₁

-- a reload of these bytes alone ends without a fault and with no torn end, and replays from no sets to this world
pub record ReplaysTo (bytes : List ℕ) (world : World) : Type 0 where
  pub all : AllReplayed fin.empty bytes world
  pub whole : rest bytes ≡ []
