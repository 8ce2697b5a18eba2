-- An owner of sets whose changes are logged.
use Rattle.std.specs.Prelude.{◌≡◌, ℕ, ◌+◌, List, Option, None, Some, IsSomeAnd}
use Rattle.resp_wire.specs.RequestEncoding.{request}
use Rattle.resp_wire.specs.Response.{Response}
use Rattle.zset_core.specs.SetsByKey.{World, set_at}
use Rattle.zset_core.specs.Semantics.{act}
use Rattle.zset_commands.specs.AbstractCommand.{Asked}
use Rattle.zset_commands.specs.declared.refusal.Refusal.{Refusal}
use Rattle.zset_commands.specs.declared.refusal.Refusal.TheVariants.{NoMemory, ScoreOverflow}
use Rattle.log_records.specs.Records.{Record}
use Rattle.log_records.specs.EffectRecords.{change_record, record_made}
use Rattle.log_records.specs.Replay.{replay}
use Rattle.log_records.specs.LogViewAndSteps.{LogView, HasRecords, Appends, NotAppended}

-- its sets, its log, and how many records it appended
pub record LoggedView : Type 0 where
  pub world : World
  pub log : LogView
  pub share : ℕ

-- worlds that have the same set at each key: a key whose set is empty is the same as a missing key
abbrev pub AreSame : World → World → Type 0
AreSame one other = (key : List ℕ) → set_at one key ≡ set_at other key

-- the records at the end of its log's sink replay from a world to the owner's, where the sink tells its bytes
pub record Replays (start : World) (state : LoggedView) : Type 0 where
  pub records : List Record
  pub stand : HasRecords state.log records
  pub world : World
  pub replayed : replay start records ≡ Some world
  pub same : AreSame world state.world

-- a command that makes this of a world changes a set of it
abbrev pub ChangesWorld : World → Option (World × Response) → Type 0
ChangesWorld world made = IsSomeAnd made (λ done. AreSame world done.0 → ⊥)

-- why a command's record is not appended: out of memory it is not made, and the log stays
abbrev pub NotRecorded : Refusal → LogView → LogView → List ℕ → Type 0
NotRecorded NoMemory old new bytes = new ≡ old
NotRecorded refusal old new bytes = NotAppended refusal old new bytes

-- why a command is not run that would make this of a world, and what becomes of the log:
-- out of memory, the log stays; so it does where the sum of INCR is no score and so nothing is made of the world;
-- else the command would change a set, and its record is not appended
abbrev pub NotRun : Refusal → World → Option (World × Response) → List ℕ → LogView → LogView → Type 0
NotRun NoMemory world made bytes old new = new ≡ old
NotRun ScoreOverflow world made bytes old new = (new ≡ old) × (made ≡ None)
NotRun refusal world made bytes old new = ChangesWorld world made × NotAppended refusal old new bytes

-- a command was run: the record of its change was appended exactly where a set changed
pub record Ran (old new : LoggedView) (command : Asked) (reply : Response) : Type 0 where
  pub acted : act old.world command.meaning ≡ Some (new.world, reply)
  pub kept : AreSame old.world new.world → (new.log ≡ old.log) × (new.share ≡ old.share)
  pub logged : (AreSame old.world new.world → ⊥) → Appends old.log new.log (request (change_record command old.world new.world)) × (new.share ≡ old.share + 1)

-- a command was refused: all sets stay
pub record Refused (old new : LoggedView) (command : Asked) (refusal : Refusal) : Type 0 where
  pub world_stays : new.world ≡ old.world
  pub share_stays : new.share ≡ old.share
  pub cause : NotRun refusal old.world (act old.world command.meaning) (request (record_made command old.world (act old.world command.meaning))) old.log new.log
