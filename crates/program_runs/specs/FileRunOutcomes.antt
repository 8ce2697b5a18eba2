-- How the program ends where it works on append files, and what a rewrite prints.
use Rattle.std.specs.Prelude.{◌≡◌, ℕ, ◌-◌, ◌^◌, ◌<◌, ◌==◌, ◌⊎◌, if◌then◌else◌, Bool, false, true, List, [], ◌∷◌, ◌++◌, length, min, codes, decimal, Option, None, Some, Result, Ok, Err}
use Rattle.std.specs.FinMap as fin
use Rattle.std.specs.Io.KnownBytes.{append_known}
use Rattle.resp_wire.specs.Device.{Rose}
use Rattle.zset_core.specs.SetsByKey.{World}
use Rattle.append_log.specs.Dump.{dump}
use Rattle.append_file.specs.FileOpening.{Opens, OpenFails}
use Rattle.append_log.specs.LoggedOwnerViewAndRuns.{LoggedView}
use Rattle.append_file.specs.declared.file_sink.FileFault.TheVariants as files
use Rattle.log_records.specs.declared.reload_outcome.Loaded.{Loaded}
use Rattle.log_records.specs.declared.reload_outcome.ReloadFault.{ReloadFault}
use Rattle.log_records.specs.declared.reload_outcome.ReloadFault.TheVariants as faults
use Rattle.append_file.specs.declared.opening.OpenFault.{OpenFault}
use Rattle.append_file.specs.declared.opening.OpenFault.TheVariants as opens
use Rattle.log_records.specs.declared.dumping.RewriteFault.TheVariants as rewrites
use Rattle.append_file.specs.declared.new_file.NewFileFault.{NewFileFault}
use Rattle.append_file.specs.declared.new_file.NewFileFault.TheVariants as new_file_faults
use Rattle.resp_wire.specs.Response.{Response}
use Rattle.append_log.specs.LoggedAnswers.{LoggedAnswers}
use Rattle.session_core.specs.Exchange.{Exchanges}
use Rattle.lone_sessions.specs.ExchangesBetweenSyncs.{TalkBetweenSyncs}
use Rattle.exit_lines.specs.DeviceStates.{SourceState, DrainState}
use Rattle.exit_lines.specs.ExitStatusAndLines.{finish_by, noticed, IsPrinted}
use Rattle.program_runs.specs.SessionFinish.{Finishes}
use Rattle.exit_lines.specs.declared.lines_and_statuses.Line.{Line}
use Rattle.exit_lines.specs.declared.lines_and_statuses.Line.TheVariants as lines
use Rattle.exit_lines.specs.declared.lines_and_statuses.Unusable.TheVariants as unusable
use Rattle.exit_lines.specs.declared.lines_and_statuses.Finish.{Finish}

-- the line that tells why a file could not be reloaded
abbrev pub reload_line : ReloadFault → Line
reload_line faults.NoMemory = lines.OutOfMemory
reload_line (faults.Damaged at) = lines.FileDamaged at
reload_line faults.ReadFault = lines.FileReadFault
reload_line (faults.NotACommand at) = lines.NoCommandInFile at
reload_line faults.TooManyReads = lines.FileReadTooOften
reload_line faults.UnknownVersion = lines.UnknownVersion

-- the line that tells why a file of version 1 was not renewed
abbrev pub renewal_line : NewFileFault → Line
renewal_line (new_file_faults.File fault) = lines.CannotUseFile (unusable.Renewed fault)
renewal_line (new_file_faults.Rewrite rewrites.NoMemory) = lines.OutOfMemory
renewal_line (new_file_faults.Rewrite rewrites.Sink) = lines.CannotUseFile (unusable.Renewed files.Write)

-- the line that tells why a file was not opened
abbrev pub open_line : OpenFault → Line
open_line (opens.File fault) = lines.CannotUseFile (unusable.Old fault)
open_line (opens.Reload fault) = reload_line fault
open_line (opens.Renew fault) = renewal_line fault

-- the line that tells why a file was not written anew
abbrev pub new_file_line : NewFileFault → Line
new_file_line (new_file_faults.File fault) = lines.CannotUseFile (unusable.New fault)
new_file_line (new_file_faults.Rewrite rewrites.NoMemory) = lines.OutOfMemory
new_file_line (new_file_faults.Rewrite rewrites.Sink) = lines.WriteFault

-- the notice of a torn end, where there is one
abbrev pub torn_notice : Loaded → Option Line
torn_notice loaded = if loaded.torn == 0 then None else Some (lines.TornEnd loaded.torn)

abbrev pub records_text : ℕ → List ℕ
records_text count = codes "records " ++ (decimal count ++ 10 ∷ [])

-- why a file was not opened, by its line
abbrev pub FailsBy : Line → World → World → Type 0
FailsBy line start world = (fault : OpenFault) × (line ≡ open_line fault) × OpenFails fault start world

-- whether a number of records was printed, and else why not
abbrev pub Prints : ℕ → Result ℕ Line → DrainState → DrainState → Type 0
Prints count (Ok printed) drain₀ drain₁ = (printed ≡ count) × (drain₁.told ≡ append_known drain₀.told (records_text count))
Prints count (Err line) drain₀ drain₁ = ((line ≡ lines.OutOfMemory) × (drain₁.told ≡ drain₀.told)) ⊎ ((line ≡ lines.WriteFault) × Rose drain₀.failures drain₁.failures)

abbrev pub end_of : Result ℕ Line → Finish
end_of (Ok count) = record { status = 0; lines = None ∷ None ∷ [] }
end_of (Err line) = finish_by line

-- a new file was made with so many records, and their number printed; or it was not made
abbrev pub EndsBehind : Result ℕ NewFileFault → World → DrainState → DrainState → Finish → Type 0
EndsBehind (Ok count) world drain₀ drain₁ finish =
    (printed : Result ℕ Line) × (count ≡ min (length (dump world)) (2 ^ 64 - 1)) × Prints count printed drain₀ drain₁ × (finish ≡ end_of printed)
EndsBehind (Err fault) world drain₀ drain₁ finish = (drain₁.told ≡ drain₀.told) × (finish ≡ finish_by (new_file_line fault))

-- what became of a new file, where the old one replays to this world
pub record MakesNewFile (world : World) (drain₀ drain₁ : DrainState) (finish : Finish) : Type 0 where
  pub made : Result ℕ NewFileFault
  pub ended : EndsBehind made world drain₀ drain₁ finish

-- the old file was replayed, and a new one was made of its sets, behind a notice of a torn end; or the old file was
-- not opened, and nothing was printed
abbrev pub EndsAfter : Result Loaded OpenFault → World → DrainState → DrainState → Finish → Type 0
EndsAfter (Ok loaded) world drain₀ drain₁ finish =
    (end : Finish) × MakesNewFile world drain₀ drain₁ end × (finish ≡ noticed (torn_notice loaded) end)
EndsAfter (Err fault) world drain₀ drain₁ finish = (drain₁.told ≡ drain₀.told) × (finish ≡ finish_by (open_line fault))

-- a rewrite
pub record Rewrites (drain₀ drain₁ : DrainState) (finish : Finish) : Type 0 where
  pub old : Result Loaded OpenFault
  pub world : World
  pub opened : Opens old fin.empty world
  pub ended : EndsAfter old world drain₀ drain₁ finish

-- the most records that a session appends to its file
abbrev pub most_records : ℕ
most_records = 1000000000

-- an owner of these sets, whose log has no record yet
pub record IsNew (deferred : Bool) (world : World) (state : LoggedView) : Type 0 where
  pub world_is : state.world ≡ world
  pub share_is : state.share ≡ 0
  pub appended_is : state.log.appended ≡ 0
  pub limit_is : state.log.limit ≡ most_records
  pub deferred_is : state.log.deferred ≡ deferred
  pub unbroken : state.log.broken ≡ false

-- what is said in a session with a log: where that is deferred, it may be synced between
abbrev pub talk_of : Bool → LoggedView → List (List (List ℕ)) → List Response → LoggedView → Type 0
talk_of false = Exchanges LoggedAnswers
talk_of true = TalkBetweenSyncs

-- a session was served from these sets, with a log for their changes
pub record ServesFrom (deferred : Bool) (world : World) (source₀ source₁ : SourceState) (drain₀ drain₁ : DrainState) (finish : Finish) : Type 0 where
  pub start : LoggedView
  pub is_new : IsNew deferred world start
  pub here : LoggedView
  pub finishes : Finishes (talk_of deferred) start source₀ source₁ drain₀ drain₁ finish here

-- the notice of a torn end
abbrev pub torn_text : ℕ → List ℕ
torn_text bytes = codes "zcrackd: torn end of " ++ (decimal bytes ++ (codes " bytes" ++ 10 ∷ []))

-- a torn end of so many bytes was told, as far as there was memory and the drain took it; where there is none, nothing was
abbrev pub TellsTorn : ℕ → DrainState → DrainState → Type 0
TellsTorn bytes errors₀ errors₁ =
    (bytes ≡ 0 → errors₁ ≡ errors₀) × (0 < bytes → (printed : Result Unit Line) × IsPrinted (torn_text bytes) printed errors₀ errors₁)

-- an append file was opened, whose records replay to this world, and a torn end was told
pub record FileIsOpened (world : World) (errors₀ errors₁ : DrainState) : Type 0 where
  pub loaded : Loaded
  pub opened : Opens (Ok loaded) fin.empty world
  pub told : TellsTorn loaded.torn errors₀ errors₁

-- it was not opened, for the cause of this line, and nothing was told
pub record FileIsUnopened (line : Line) (errors₀ errors₁ : DrainState) : Type 0 where
  pub fault : OpenFault
  pub world : World
  pub opened : Opens (Err fault) fin.empty world
  pub line_is : line ≡ open_line fault
  pub quiet : errors₁ ≡ errors₀

-- a session from an append file: from the sets that it replays to, once a torn end was told; or the file was not opened,
-- and the devices were not called
abbrev pub ServesAfter : Bool → Result Loaded OpenFault → World → SourceState → SourceState → DrainState → DrainState → DrainState → DrainState → Finish → Type 0
ServesAfter deferred (Ok loaded) world source₀ source₁ drain₀ drain₁ errors₀ errors₁ finish =
    TellsTorn loaded.torn errors₀ errors₁ × ServesFrom deferred world source₀ source₁ drain₀ drain₁ finish
ServesAfter deferred (Err fault) world source₀ source₁ drain₀ drain₁ errors₀ errors₁ finish =
    (source₁ ≡ source₀) × (drain₁ ≡ drain₀) × (errors₁ ≡ errors₀) × (finish ≡ finish_by (open_line fault))

pub record ServesFile (deferred : Bool) (source₀ source₁ : SourceState) (drain₀ drain₁ errors₀ errors₁ : DrainState) (finish : Finish) : Type 0 where
  pub file : Result Loaded OpenFault
  pub world : World
  pub opened : Opens file fin.empty world
  pub served : ServesAfter deferred file world source₀ source₁ drain₀ drain₁ errors₀ errors₁ finish
