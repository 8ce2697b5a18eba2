-- What the records of an append file replay to. The first one decides how those behind it are read.
use Rattle.std.specs.Prelude.{ℕ, ◌+◌, ◌==◌, Bool, not, ◌&&◌, List, [], ◌∷◌, length, codes, Option, Some, None, Result, Ok, Err, option_map, option_and_then, if◌then◌else◌}
use Rattle.std.specs.Str.{bytes_eq}
use Rattle.zset_commands.specs.declared.refusal.Refusal.{Refusal}
use Rattle.zset_commands.specs.AbstractCommand.{Meaning, is_writing}
use Rattle.zset_commands.specs.AbstractCommand.{has_options}
use Rattle.zset_commands.specs.CommandGrammar.{asked}
use Rattle.zset_commands.specs.MeaningOfForm.{word_at}
use Rattle.zset_core.specs.SetsByKey.{World}
use Rattle.zset_core.specs.Semantics.{act}
use Rattle.log_records.specs.Records.{Record}
use Rattle.log_records.specs.declared.version.Version.{Version}
use Rattle.log_records.specs.declared.version.Version.TheVariants.{Commands, Effects}

-- the header of version 2
abbrev pub header : Record
header = codes "ZCRACKD" ∷ codes "2" ∷ []

-- a record that names a version: these very bytes, and one word behind them
abbrev pub names_version : Record → Bool
names_version words = (length words == 2) && bytes_eq (word_at words 0) (codes "ZCRACKD")

abbrev pub is_header : Record → Bool
is_header words = names_version words && bytes_eq (word_at words 1) (codes "2")

-- what a command changed is told by ZADD without options, ZREM or ZREMRANGEBYSCORE
abbrev pub is_effect : Meaning → Bool
is_effect meaning = is_writing meaning && not (has_options meaning)

-- which commands are replayed: those that change sets, or effects alone
abbrev pub is_replayed : Version → Meaning → Bool
is_replayed Commands meaning = is_writing meaning
is_replayed Effects meaning = is_effect meaning

-- the world after arguments that were read so; none where they are not replayed, or are refused
abbrev pub after_reading : Version → World → Result Meaning Refusal → Option World
after_reading version world (Err refusal) = None
after_reading version world (Ok meaning) = if is_replayed version meaning then option_map (λ done. done.0) (act world meaning) else None

-- the world after one record
abbrev pub after : Version → World → Record → Option World
after version world words = after_reading version world (asked words)

-- the world after each record in turn
abbrev pub replay_as : Version → World → List Record → Option World
replay_as version world [] = Some world
replay_as version world (words ∷ records) = option_and_then (λ next. replay_as version next records) (after version world words)

-- the same from before the first record (None), or from behind it: a header is passed over, what names another version
-- has no replay, and where the first record is neither, all are commands
abbrev pub replay_from : Option Version → World → List Record → Option World
replay_from (Some version) world records = replay_as version world records
replay_from None world [] = Some world
replay_from None world (words ∷ records) =
    if is_header words then replay_as Effects world records
    else if names_version words then None
    else replay_as Commands world (words ∷ records)

-- the world after the records of a file
abbrev pub replay : World → List Record → Option World
replay world records = replay_from None world records

-- how records behind these are read
abbrev pub version_after : Option Version → List Record → Option Version
version_after (Some version) records = Some version
version_after None [] = None
version_after None (words ∷ records) = Some (if is_header words then Effects else Commands)

-- how many records count, from before the first one (None) or from behind it: all but the header
abbrev pub count_from : Option Version → List Record → ℕ
count_from (Some version) records = length records
count_from None [] = 0
count_from None (words ∷ records) = if is_header words then length records else length records + 1

-- how many records of a file count
abbrev pub records_counted : List Record → ℕ
records_counted records = count_from None records
