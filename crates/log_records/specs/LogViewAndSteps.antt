-- What a log is seen as, and what holds of every log.
use Rattle.std.specs.Prelude.{◌≡◌, ◌≢◌, if◌then◌else◌, ℕ, ◌+◌, ◌*◌, ◌^◌, ◌<◌, ◌≤◌, Bool, true, false, List, [], ◌∷◌, ◌++◌, length, take, Option, IfSome, Result, Ok, Err}
use Rattle.std.specs.Io.KnownBytes.{append_known}
use Rattle.resp_wire.specs.Device.{Rose}
use Rattle.zset_commands.specs.declared.refusal.Refusal.{Refusal}
use Rattle.zset_commands.specs.declared.refusal.Refusal.TheVariants.{LogBroken, LogFull, LogRefused}
use Rattle.log_records.specs.Records.{Record, text_of_records, AreRecords, IsRecordPrefix, ReadsPrefix}
use Rattle.log_records.specs.declared.writing_out.Out.{Out}

-- a log, without the types of its sink and its ledger
pub record LogView : Type 0 where
  -- the sink: its bytes where it tells them, how many of them stood at its last good sync, its counts
  pub told : Option (List ℕ)
  pub synced : ℕ
  pub calls : ℕ
  pub failures : ℕ
  -- how many records were appended, how many of these the last good sync came behind, how many bytes the sink took for them, how
  -- many records may be appended
  pub appended : ℕ
  pub settled : ℕ
  pub written : ℕ
  pub limit : ℕ
  -- whether appends leave their records to a later sync
  pub deferred : Bool
  -- whether an append or a sync failed
  pub broken : Bool
  -- how many shares it can still give away
  pub parts : ℕ

-- a log of no records, behind whatever its sink holds
abbrev pub empty_log : Option (List ℕ) → ℕ → ℕ → ℕ → ℕ → Bool → ℕ → LogView
empty_log told synced calls failures limit deferred parts = record { told = told; synced = synced; calls = calls; failures = failures; appended = 0; settled = 0; written = 0; limit = limit; deferred = deferred; broken = false; parts = parts }

-- what stands behind the last record: nothing, or in a broken log a prefix of one more
abbrev pub IsTail : Bool → List ℕ → Type 0
IsTail false tail = tail ≡ []
IsTail true tail = IsRecordPrefix tail

-- the last `written` bytes are the text of these `appended` records, and the tail
pub record Ends (bytes : List ℕ) (records : List Record) (synced settled appended written : ℕ) (broken : Bool) : Type 0 where
  pub before : List ℕ
  pub tail : List ℕ
  pub whole : bytes ≡ before ++ (text_of_records records ++ tail)
  pub each : AreRecords records
  pub count : length records ≡ appended
  pub size : length (text_of_records records ++ tail) ≡ written
  pub rest : IsTail broken tail
  -- the last good sync came behind those that are settled
  pub durable : 0 < settled → length (before ++ text_of_records (take settled records)) ≤ synced

-- a log's sink ends with these records, where it tells its bytes
abbrev pub HasRecords : LogView → List Record → Type 0
HasRecords log records = IfSome log.told (λ bytes. Ends bytes records log.synced log.settled log.appended log.written log.broken)

-- what holds of every log
pub record IsLog (log : LogView) : Type 0 where
  pub records : List Record
  pub stands : HasRecords log records
  pub within : log.appended ≤ log.limit
  pub settled_within : log.settled ≤ log.appended
  -- where no sync is deferred each append settles its record
  pub at_once : log.deferred ≡ false → log.settled ≡ log.appended
  pub limited : log.limit ≤ 2 ^ 40
  pub small : log.written ≤ 2 ^ 64 * (log.appended + 1)
  pub small_whole : log.broken ≡ false → log.written ≤ 2 ^ 64 * log.appended
  pub has_part : 0 < log.parts

-- how many records are settled once one more was appended
abbrev pub settled_with : Bool → ℕ → ℕ → ℕ
settled_with deferred settled appended = if deferred then settled else appended

-- bytes came into a sink as far as `out` says: all of them; or a front of them, perhaps none or all, and the sink failed
pub record WroteOut (told₀ told₁ : Option (List ℕ)) (failures₀ failures₁ : ℕ) (bytes : List ℕ) (out : Out) : Type 0 where
  pub at_most : out.taken ≤ length bytes
  pub told : told₁ ≡ append_known told₀ (take out.taken bytes)
  pub whole : out.whole ≡ true → out.taken ≡ length bytes
  pub good : out.whole ≡ true → failures₁ ≡ failures₀
  pub cause : out.whole ≡ false → Rose failures₀ failures₁

-- a log that was neither broken nor full: bytes were written out, and synced unless that is deferred
pub record Appends (old new : LogView) (bytes : List ℕ) : Type 0 where
  pub unbroken : old.broken ≡ false
  pub room : old.appended ≢ old.limit
  pub told : new.told ≡ append_known old.told bytes
  pub synced : old.deferred ≡ false → IfSome new.told (λ all. new.synced ≡ length all)
  pub unsynced : old.deferred ≡ true → new.synced ≡ old.synced
  pub appended : new.appended ≡ old.appended + 1
  pub settled : new.settled ≡ settled_with old.deferred old.settled (old.appended + 1)
  pub deferred : new.deferred ≡ old.deferred
  pub written : new.written ≡ old.written + length bytes
  pub limit : new.limit ≡ old.limit
  pub broken : new.broken ≡ old.broken
  pub parts : new.parts ≡ old.parts
  pub failures : new.failures ≡ old.failures

-- a log that was neither broken nor full, and whose sink failed: a prefix of the bytes was written, perhaps none or all of
-- them, and the log is broken
pub record Breaks (old new : LogView) (bytes : List ℕ) : Type 0 where
  pub unbroken : old.broken ≡ false
  pub room : old.appended ≢ old.limit
  pub out : ℕ
  pub at_most : out ≤ length bytes
  pub told : new.told ≡ append_known old.told (take out bytes)
  pub synced : new.synced ≡ old.synced
  pub appended : new.appended ≡ old.appended
  pub settled : new.settled ≡ old.settled
  pub deferred : new.deferred ≡ old.deferred
  pub written : new.written ≡ old.written + out
  pub limit : new.limit ≡ old.limit
  pub broken : new.broken ≡ true
  pub parts : new.parts ≡ old.parts
  pub failures : Rose old.failures new.failures

-- why a record of these bytes is not appended, and what becomes of the log: it stays, but for LogRefused, which breaks it
abbrev pub NotAppended : Refusal → LogView → LogView → List ℕ → Type 0
NotAppended LogBroken old new bytes = (new ≡ old) × (old.broken ≡ true)
NotAppended LogFull old new bytes = (new ≡ old) × (old.broken ≡ false) × (old.appended ≡ old.limit)
NotAppended LogRefused old new bytes = Breaks old new bytes
NotAppended _ old new bytes = ⊥

-- all records are settled, by a sync where one was not; no byte was written
pub record Settles (old new : LogView) : Type 0 where
  pub told : new.told ≡ old.told
  pub settled : new.settled ≡ old.appended
  pub synced : old.settled ≢ old.appended → IfSome new.told (λ all. new.synced ≡ length all)
  -- where none was waiting the sink was not asked
  pub unasked : old.settled ≡ old.appended → new ≡ old
  pub appended : new.appended ≡ old.appended
  pub written : new.written ≡ old.written
  pub limit : new.limit ≡ old.limit
  pub deferred : new.deferred ≡ old.deferred
  pub broken : new.broken ≡ old.broken
  pub parts : new.parts ≡ old.parts
  pub failures : new.failures ≡ old.failures

-- a sync of a log that was not broken failed: no record that waited is settled, and the log is broken
pub record Unsettled (old new : LogView) : Type 0 where
  pub unbroken : old.broken ≡ false
  pub waited : old.settled ≢ old.appended
  pub told : new.told ≡ old.told
  pub synced : new.synced ≡ old.synced
  pub appended : new.appended ≡ old.appended
  pub settled : new.settled ≡ old.settled
  pub deferred : new.deferred ≡ old.deferred
  pub written : new.written ≡ old.written
  pub limit : new.limit ≡ old.limit
  pub broken : new.broken ≡ true
  pub parts : new.parts ≡ old.parts
  pub failures : Rose old.failures new.failures

-- why records are not settled, and what becomes of the log
abbrev pub NotSettled : Refusal → LogView → LogView → Type 0
NotSettled LogBroken old new = (new ≡ old) × (old.broken ≡ true)
NotSettled LogRefused old new = Unsettled old new
NotSettled _ old new = ⊥

-- a share's count after an append with this result
abbrev pub share_after : {T E : Type 0} → ℕ → Result T E → ℕ
share_after count (Ok _) = count + 1
share_after count (Err _) = count

-- the records after an append with this result
abbrev pub records_after : {T E : Type 0} → List Record → Record → Result T E → List Record
records_after records entry (Ok _) = records ++ entry ∷ []
records_after records entry (Err _) = records

-- behind `before` stand the bytes that a log wrote. `records` are those that were appended, and `one` is at
-- most one more
pub record Readable (bytes : List ℕ) (synced settled appended written : ℕ) : Type 0 where
  pub before : List ℕ
  pub last : List ℕ
  pub records : List Record
  pub one : List Record
  pub whole : bytes ≡ before ++ last
  pub size : length last ≡ written
  pub count : length records ≡ appended
  pub at_most_one : length one ≤ 1
  pub each : AreRecords (records ++ one)
  pub prefixes : (n : ℕ) → n ≤ written → ReadsPrefix (take n last) (records ++ one)
  -- a prefix that reaches the last good sync has all settled records
  pub durable : 0 < settled → (n : ℕ) → synced ≤ length before + n → length (text_of_records (take settled records)) ≤ n
