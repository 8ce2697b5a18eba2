-- What a reload leaves, by the bytes that it read.
use Rattle.std.specs.Prelude.{◌≡◌, ℕ, ◌+◌, true, false, List, [], ◌∷◌, ◌++◌, length, Option, None, Some, Result, Ok, Err}
use Rattle.std.specs.Io.KnownBytes.{prepend_known}
use Rattle.resp_wire.specs.declared.fault.ProtocolFault.{ProtocolFault}
use Rattle.resp_wire.specs.declared.fault.Stop.TheVariants.{Wrong}
use Rattle.resp_wire.specs.RequestEncoding.{request, IsRequest}
use Rattle.resp_wire.specs.Parser.{item_at}
use Rattle.resp_wire.specs.Stream.{requests, rest, fault}
use Rattle.resp_wire.specs.DecoderView.{DecoderView}
use Rattle.zset_core.specs.SetsByKey.{World}
use Rattle.log_records.specs.Records.{Record}
use Rattle.log_records.specs.Replay.{replay, replay_from, names_version, is_header, version_after, records_counted}
use Rattle.log_records.specs.declared.version.Version.{Version}
use Rattle.log_records.specs.declared.version.Version.TheVariants.{Commands, Effects}
use Rattle.log_records.specs.declared.reload_outcome.Loaded.{Loaded}
use Rattle.log_records.specs.declared.reload_outcome.ReloadFault.{ReloadFault}
use Rattle.log_records.specs.declared.reload_outcome.ReloadFault.TheVariants.{NoMemory, Damaged, ReadFault, NotACommand, TooManyReads, UnknownVersion}

-- the number that names a version; a file without a record has version 1
abbrev pub version_number : Option Version → ℕ
version_number None = 1
version_number (Some Commands) = 1
version_number (Some Effects) = 2

-- `front` is whole records and skips, and they replay from start to world; behind it stands `behind`, whose records are
-- read by this version, or tell it (None)
pub record Replayed (start : World) (bytes : List ℕ) (at : ℕ) (behind : List ℕ) (world : World) (count : ℕ) (version : Option Version) : Type 0 where
  pub front : List ℕ
  pub bytes_are : bytes ≡ front ++ behind
  pub at_is : length front ≡ at
  pub ends : rest front ≡ []
  pub replayed : replay start (requests front) ≡ Some world
  pub count_is : count ≡ records_counted (requests front)
  pub version_is : version ≡ version_after None (requests front)

-- a request that no replay takes stands at the start of these bytes
pub record IsNoCommand (version : Option Version) (world : World) (bytes : List ℕ) : Type 0 where
  pub words : Record
  pub more : List ℕ
  pub is_request : IsRequest words
  pub bytes_are : bytes ≡ request words ++ more
  pub refused : replay_from version world (words ∷ []) ≡ None
  -- a first record that names a version is told as an unknown version
  pub unnamed : version ≡ None → names_version words ≡ false

-- a request that names another version than 2 stands there
pub record IsUnknownVersion (bytes : List ℕ) : Type 0 where
  pub words : Record
  pub more : List ℕ
  pub is_request : IsRequest words
  pub bytes_are : bytes ≡ request words ++ more
  pub names : names_version words ≡ true
  pub unknown : is_header words ≡ false

-- all that was read is replayed as far as it is whole, and no fault stands in it
pub record AllReplayed (start : World) (bytes : List ℕ) (world : World) : Type 0 where
  pub unfaulted : fault bytes ≡ None
  pub replayed : replay start (requests bytes) ≡ Some world

-- what a fault tells of the bytes read and of the world that it leaves. Only a first record tells of an unknown version,
-- so nothing was replayed before it
abbrev pub FaultAt : ReloadFault → World → List ℕ → World → Type 0
FaultAt NoMemory start bytes world = (at : ℕ) × (behind : List ℕ) × (count : ℕ) × (version : Option Version) × Replayed start bytes at behind world count version
FaultAt (Damaged at) start bytes world = (behind : List ℕ) × (count : ℕ) × (version : Option Version) × (f : ProtocolFault) × Replayed start bytes at behind world count version × (item_at behind ≡ Err (Wrong f))
FaultAt ReadFault start bytes world = AllReplayed start bytes world
FaultAt (NotACommand at) start bytes world = (behind : List ℕ) × (count : ℕ) × (version : Option Version) × Replayed start bytes at behind world count version × IsNoCommand version world behind
FaultAt UnknownVersion start bytes world = (at : ℕ) × (behind : List ℕ) × Replayed start bytes at behind world 0 None × IsUnknownVersion behind
FaultAt TooManyReads start bytes world = AllReplayed start bytes world

-- a whole stream was replayed
pub record IsLoaded (start : World) (bytes : List ℕ) (loaded : Loaded) (world : World) : Type 0 where
  pub all : AllReplayed start bytes world
  pub records_are : loaded.records ≡ records_counted (requests bytes)
  pub version_is : loaded.version ≡ version_number (version_after None (requests bytes))
  pub torn_is : loaded.torn ≡ length (rest bytes)
  pub whole_is : loaded.whole + loaded.torn ≡ length bytes

abbrev pub Reloaded : Result Loaded ReloadFault → World → List ℕ → World → Type 0
Reloaded (Ok loaded) start bytes world = IsLoaded start bytes loaded world
Reloaded (Err f) start bytes world = FaultAt f start bytes world

-- what a reload read, and what it leaves
pub record ReloadReads (source₀ source₁ : Option (List ℕ)) (start : World) (result : Result Loaded ReloadFault) (world : World) : Type 0 where
  pub bytes : List ℕ
  pub read_is : source₀ ≡ prepend_known bytes source₁
  pub reloaded : Reloaded result start bytes world

-- what a decoder that answered no fault holds stands behind the records that are replayed
pub record ReloadHolds (start : World) (bytes : List ℕ) (wire : DecoderView) (world : World) (count : ℕ) (version : Option Version) : Type 0 where
  pub unfaulted : wire.fault ≡ None
  pub replayed : Replayed start bytes wire.taken wire.held world count version

-- what is held is less than a record or a skip
pub record IsLess (held : List ℕ) : Type 0 where
  pub none : requests held ≡ []
  pub all : rest held ≡ held
  pub unfaulted : fault held ≡ None
