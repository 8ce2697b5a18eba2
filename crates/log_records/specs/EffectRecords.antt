-- The record of a change: what it leaves of the members that its command names, whatever was asked for.
use Rattle.std.specs.Prelude.{ℕ, ℤ, List, [], ◌∷◌, codes, Option, Some, None, unwrap_or, slice_get, IfSome}
use Rattle.std.specs.List.{flat_map}
use Rattle.score_bounds.specs.ScoreTexts.{IsScore, score_text}
use Rattle.resp_wire.specs.Stream.{requests}
use Rattle.zset_core.specs.SortedSet.{Members}
use Rattle.resp_wire.specs.Response.{Response}
use Rattle.sorted_sets.specs.SetAndOwnerViews.{Next, OwnerView, SetView}
use Rattle.zset_core.specs.SetsByKey.{World, set_at}
use Rattle.zset_commands.specs.AbstractCommand.{Meaning, Asked, key_of, Ping, Asks, Changes, Change, Add, Increase, Remove, RemoveRange}
use Rattle.sorted_sets.specs.MovedMembers.{effect}
use Rattle.log_records.specs.Records.{Record}

-- a member and the score that it has, None where it is gone
abbrev pub EffectEntry : Type 0
EffectEntry = List ℕ × Option ℤ

-- the arguments that tell of one member: its name behind its score, or alone where it is gone
abbrev pub words_behind : List ℕ → Option ℤ → List (List ℕ)
words_behind name None = name ∷ []
words_behind name (Some score) = score_text score ∷ name ∷ []

abbrev pub entry_words : EffectEntry → List (List ℕ)
entry_words entry = words_behind entry.0 entry.1

-- the arguments that tell of each
abbrev pub effect_words : List EffectEntry → List (List ℕ)
effect_words entries = flat_map entry_words entries

-- of a change: ZADD of the members that came in or got another score; ZREM of those that left; ZREMRANGEBYSCORE as it was
-- given
abbrev pub change_record_for : Record → List EffectEntry → List ℕ → Change → Record
change_record_for words entries key (Add flags changed pairs) = codes "ZADD" ∷ (key ∷ effect_words entries)
change_record_for words entries key (Increase flags given member) = codes "ZADD" ∷ (key ∷ effect_words entries)
change_record_for words entries key (Remove names) = codes "ZREM" ∷ (key ∷ effect_words entries)
change_record_for words entries key (RemoveRange range) = words

abbrev pub record_for : Record → List EffectEntry → Meaning → Record
record_for words entries (Ping text) = words
record_for words entries (Asks key question) = words
record_for words entries (Changes key change) = change_record_for words entries key change

-- the record of a command that makes a new set of an old one
abbrev pub effect_record : Asked → Members → Members → Record
effect_record command old new = record_for command.words (effect old new command.meaning) command.meaning

-- the record of what a set has prepared for a command
abbrev pub record_of_next : Asked → Members → Option Next → Record
record_of_next command members None = command.words
record_of_next command members (Some next) = effect_record command members next.members

abbrev pub next_record : Asked → SetView → Record
next_record command set = record_of_next command set.members set.next

-- the same of an owner
abbrev pub record_of_owner_next : Asked → World → Option (List ℕ × Next) → Record
record_of_owner_next command world None = command.words
record_of_owner_next command world (Some next) = effect_record command (set_at world next.0) next.1.members

abbrev pub prepared_record : Asked → OwnerView → Record
prepared_record command owner = record_of_owner_next command owner.world owner.next

-- the record of a command that makes a world of another: that of the sets at its key
abbrev pub record_at : Option (List ℕ) → Asked → World → World → Record
record_at None command old new = command.words
record_at (Some key) command old new = effect_record command (set_at old key) (set_at new key)

abbrev pub change_record : Asked → World → World → Record
change_record command old new = record_at (key_of command.meaning) command old new

-- the same of a command that would make this of a world
abbrev pub record_made_at : Option (List ℕ) → Asked → World → Option (World × Response) → Record
record_made_at key command old None = command.words
record_made_at key command old (Some made) = record_at key command old made.0

abbrev pub record_made : Asked → World → Option (World × Response) → Record
record_made command old made = record_made_at (key_of command.meaning) command old made

-- a score of 64 bits, or none
abbrev pub HasScore : EffectEntry → Type 0
HasScore entry = IfSome entry.1 IsScore

-- the arguments that a text is the request of: the first that is read there
abbrev pub words_in : List ℕ → Record
words_in text = unwrap_or (slice_get (requests text) 0) []
