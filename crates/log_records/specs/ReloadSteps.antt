-- How far a reload came, between its steps.
use Rattle.std.specs.Prelude.{◌≡◌, ℕ, ◌+◌, ◌≤◌, List, [], ◌∷◌, ◌++◌, Bool, true, false, Option, None, Some, Result, Ok, Err}
use Rattle.resp_wire.specs.Device.{Rose}
use Rattle.resp_wire.specs.DecoderView.{DecoderView}
use Rattle.zset_core.specs.SetsByKey.{World}
use Rattle.log_records.specs.ReloadOutcome.{ReloadHolds, IsLess, IsLoaded, FaultAt}
use Rattle.log_records.specs.Records.{Record}
use Rattle.log_records.specs.Replay.{replay_from, names_version, is_header, version_after, count_from}
use Rattle.log_records.specs.declared.version.Version.{Version}
use Rattle.log_records.specs.declared.reload_outcome.Loaded.{Loaded}
use Rattle.std.specs.Io.KnownBytes.{prepend_known}
use Rattle.log_records.specs.declared.reload_outcome.ReloadFault.{ReloadFault}
use Rattle.log_records.specs.declared.reload_outcome.ReloadFault.TheVariants as faults
use Rattle.log_records.specs.declared.replaying.Unreplayed.{Unreplayed}
use Rattle.log_records.specs.declared.replaying.Unreplayed.TheVariants.{NoMemory, NotACommand, UnknownVersion}

-- a reload between two of its steps: no fault was answered, and each record took a byte or more
pub record IsBetweenReads (wire : DecoderView) (records : ℕ) : Type 0 where
  pub unfaulted : wire.fault ≡ None
  pub few : records ≤ wire.taken

-- a record is not replayed out of memory, or where no replay takes it
abbrev pub UnreplayedFor : Unreplayed → Option World → Type 0
UnreplayedFor NoMemory next = Unit {0}
UnreplayedFor NotACommand next = next ≡ None
UnreplayedFor UnknownVersion next = ⊥

-- a record is not taken: the same, or the first one names another version
abbrev pub NotTakenFor : Unreplayed → Option Version → World → Record → Type 0
NotTakenFor NoMemory version world words = Unit {0}
NotTakenFor NotACommand version world words = (replay_from version world (words ∷ []) ≡ None) × (version ≡ None → names_version words ≡ false)
NotTakenFor UnknownVersion version world words = (version ≡ None) × (names_version words ≡ true) × (is_header words ≡ false)

-- a record was taken: replayed and counted, or a header was passed over
pub record Takes (from to : Option Version) (before after : ℕ) (old new : World) (words : Record) : Type 0 where
  pub replayed : replay_from from old (words ∷ []) ≡ Some new
  pub version : to ≡ version_after from (words ∷ [])
  pub count : after ≡ before + count_from from (words ∷ [])

-- one record more was taken; or none is whole; or the reload ends
abbrev pub ReloadStepped : Result Bool ReloadFault → World → List ℕ → DecoderView → World → ℕ → Option Version → Type 0
ReloadStepped (Ok true) start bytes new world count version = ReloadHolds start bytes new world count version
ReloadStepped (Ok false) start bytes new world count version = ReloadHolds start bytes new world count version × IsLess new.held
ReloadStepped (Err fault) start bytes new world count version = FaultAt fault start bytes world

-- all that is held was replayed as far as it is whole; or the reload ends
abbrev pub Drained : {U : Type 0} → Result U ReloadFault → World → List ℕ → DecoderView → World → ℕ → Option Version → Type 0
Drained (Ok u) start bytes new world count version = ReloadHolds start bytes new world count version × IsLess new.held
Drained (Err fault) start bytes new world count version = FaultAt fault start bytes world

-- one read, and what followed from it: the file ended; or it may go on; or the reload ends
abbrev pub Rounded : Result (Option Loaded) ReloadFault → World → List ℕ → DecoderView → World → ℕ → Option Version → Type 0
Rounded (Ok (Some loaded)) start bytes wire world count version = IsLoaded start bytes loaded world
Rounded (Ok None) start bytes wire world count version = ReloadHolds start bytes wire world count version × IsLess wire.held
Rounded (Err fault) start bytes wire world count version = FaultAt fault start bytes world

-- one read from where all was replayed as far as it is whole
pub record ReadsOn (source₀ source₁ : Option (List ℕ)) (wire₀ wire₁ : DecoderView) (world₀ world₁ : World) (count₀ count₁ : ℕ) (version₀ version₁ : Option Version) (result : Result (Option Loaded) ReloadFault) : Type 0 where
  pub piece : List ℕ
  pub read_is : source₀ ≡ prepend_known piece source₁
  pub rounded : (start : World) (bytes : List ℕ) → ReloadHolds start bytes wire₀ world₀ count₀ version₀ → IsLess wire₀.held → Rounded result start (bytes ++ piece) wire₁ world₁ count₁ version₁

-- faults that the bytes give, or out of memory
abbrev pub IsOfBytes : ReloadFault → Type 0
IsOfBytes faults.NoMemory = Unit {0}
IsOfBytes (faults.Damaged at) = Unit {0}
IsOfBytes faults.ReadFault = ⊥
IsOfBytes (faults.NotACommand at) = Unit {0}
IsOfBytes faults.TooManyReads = ⊥
IsOfBytes faults.UnknownVersion = Unit {0}

-- a source's count of failures rose exactly where a reload ends by a read fault
abbrev pub SourceFailed : ReloadFault → ℕ → ℕ → Type 0
SourceFailed faults.NoMemory old new = new ≡ old
SourceFailed (faults.Damaged at) old new = new ≡ old
SourceFailed faults.ReadFault old new = Rose old new
SourceFailed (faults.NotACommand at) old new = new ≡ old
SourceFailed faults.TooManyReads old new = new ≡ old
SourceFailed faults.UnknownVersion old new = new ≡ old

-- all that was read is replayed as far as it is whole
pub record Underway (source₀ source₁ : Option (List ℕ)) (start : World) (wire : DecoderView) (world : World) (count : ℕ) (version : Option Version) : Type 0 where
  pub bytes : List ℕ
  pub read_is : source₀ ≡ prepend_known bytes source₁
  pub holds : ReloadHolds start bytes wire world count version
  pub less : IsLess wire.held
