-- What an append file that is opened leaves, where its bytes are not known.
use Rattle.std.specs.Prelude.{◌≡◌, ◌≢◌, ◌<◌, ℕ, List, Result, Ok, Err}
use Rattle.zset_core.specs.SetsByKey.{World}
use Rattle.append_log.specs.ReloadOutcome.{IsLoaded, FaultAt}
use Rattle.append_file.specs.declared.file_sink.FileFault.{FileFault}
use Rattle.append_file.specs.declared.file_sink.FileFault.TheVariants.{Open, NotRegular, Locked, Lock, Cut, Sync, Folder}
use Rattle.log_records.specs.declared.reload_outcome.Loaded.{Loaded}
use Rattle.append_file.specs.declared.opening.OpenFault.{OpenFault}
use Rattle.append_file.specs.declared.opening.OpenFault.TheVariants.{File, Reload, Renew}

-- a file was not locked
abbrev pub IsOfLock : FileFault → Type 0
IsOfLock Locked = Unit {0}
IsOfLock Lock = Unit {0}
IsOfLock _ = ⊥

-- some bytes were read, and these were replayed whole
abbrev pub Restores : World → Loaded → World → Type 0
Restores start loaded world = (bytes : List ℕ) × IsLoaded start bytes loaded world

-- why a file that was replayed is not kept as it is: a torn end can't be cut, or what was read can't be brought to the device
abbrev pub IsUnkept : FileFault → Loaded → Type 0
IsUnkept Cut loaded = 0 < loaded.torn
IsUnkept Sync loaded = Unit {0}
IsUnkept Folder loaded = Unit {0}
IsUnkept _ loaded = ⊥

-- why a file that was replayed is not appended to: it can't be kept, or it is of version 1 and can't be renewed
abbrev pub IsUnready : OpenFault → Loaded → Type 0
IsUnready (File fault) loaded = (loaded.version ≢ 1) × IsUnkept fault loaded
IsUnready (Reload fault) loaded = ⊥
IsUnready (Renew fault) loaded = loaded.version ≡ 1

-- why a file was not opened, and which world that leaves: before it is read, the one that was
abbrev pub FileFails : FileFault → World → World → Type 0
FileFails Open start world = world ≡ start
FileFails NotRegular start world = world ≡ start
FileFails Locked start world = world ≡ start
FileFails Lock start world = world ≡ start
FileFails fault start world = (loaded : Loaded) × Restores start loaded world × (loaded.version ≢ 1) × IsUnkept fault loaded

abbrev pub OpenFails : OpenFault → World → World → Type 0
OpenFails (File fault) start world = FileFails fault start world
OpenFails (Reload fault) start world = (bytes : List ℕ) × FaultAt fault start bytes world
OpenFails (Renew fault) start world = (loaded : Loaded) × Restores start loaded world × (loaded.version ≡ 1)

-- a fault after which all sets are as they were
abbrev pub LeavesSets : OpenFault → Type 0
LeavesSets fault = (world : World) → OpenFails fault world world

-- an append file was opened and replayed, or was not
abbrev pub Opens : Result Loaded OpenFault → World → World → Type 0
Opens (Ok loaded) start world = Restores start loaded world
Opens (Err fault) start world = OpenFails fault start world
