-- What a table answers.
use Rattle.std.specs.Prelude.{◌≡◌, ℕ, ◌<◌, ◌⊎◌, Bool, true, false, List, length, None, Some, IsSome, Result, Ok, Err, IsTrue}
use Rattle.std.specs.FinMap as fin
use Rattle.resp_wire.specs.Response.{response_of}
use Rattle.zset_commands.specs.AbstractCommand.{Asked, Meaning, Ping, Asks, Changes, Change, Increase, key_of, is_creating, is_writing}
use Rattle.zset_core.specs.Semantics.{step}
use Rattle.zset_core.specs.SortedSet.{Members}
use Rattle.zset_commands.specs.declared.refusal.Refusal.{Refusal}
use Rattle.zset_commands.specs.declared.refusal.Refusal.TheVariants.{NoMemory, TableFull, ScoreOverflow, LogBroken, LogFull, LogRefused, Spent, OutOfStep}
use Rattle.place_names.specs.Naming.{IsPlace, IsFull}
use Rattle.set_table.specs.PassTallies.{ShareView}
use Rattle.set_table.specs.LoggedStep.{AnswerView}
use Rattle.set_table.specs.TableAndPassViews.{TableView, PassView, IsPassOf, WasAnswered}
use Rattle.set_table.specs.declared.table.Answered.{Answered}
use Rattle.set_table.specs.declared.table.Answered.TheVariants.{Ran, NoPlace}

-- the pass knows no place of the key
abbrev pub HasNoPlace : PassView → List ℕ → Type 0
HasNoPlace pass key = (place : ℕ) → IsPlace pass.notes.known key place → ⊥

-- an answer from the key's place; or the reply of an empty set, to a command that has no key, or makes no set and whose
-- key's place the pass did not know
abbrev pub IsAnswered : {A : Type 0} → TableView → PassView → PassView → Asked → Answered A → Type 0
IsAnswered table old new command (Ran a) =
    (key : List ℕ) × (key_of command.meaning ≡ Some key) × IsPlace new.notes.known key a.place × WasAnswered table.opened old.shares new.shares a.place command a
IsAnswered table old new command (NoPlace reply) =
    (new.shares ≡ old.shares) × (step fin.empty command.meaning ≡ Some (fin.empty, response_of reply))
    × ((key_of command.meaning ≡ None) ⊎ ((is_creating command.meaning ≡ false) × ((key : List ℕ) → key_of command.meaning ≡ Some key → HasNoPlace old key)))

-- whether a change is ZADD with INCR
abbrev pub is_sum : Change → Bool
is_sum (Increase flags given member) = true
is_sum _ = false

abbrev pub is_increase : Meaning → Bool
is_increase (Ping text) = false
is_increase (Asks key question) = false
is_increase (Changes key change) = is_sum change

-- why a key gets no place
abbrev pub IsClaimRefusal : PassView → List ℕ → Refusal → Type 0
IsClaimRefusal pass key NoMemory = Unit {0}
IsClaimRefusal pass key TableFull = IsFull pass.notes.known key
IsClaimRefusal pass key _ = ⊥

-- ZADD with INCR, whose sum is no score in some set
pub record Overflows (meaning : Meaning) : Type 0 where
  pub increases : IsTrue (is_increase meaning)
  pub members : Members
  pub no_step : step members meaning ≡ None

-- the refusals of a set and its place, as far as they can be told without these: all but those of a request that is no
-- command, and TableFull; those of the log come to commands that change sets alone
abbrev pub IsSetRefusal : Meaning → Refusal → Type 0
IsSetRefusal meaning NoMemory = Unit {0}
IsSetRefusal meaning ScoreOverflow = Overflows meaning
IsSetRefusal meaning LogBroken = IsTrue (is_writing meaning)
IsSetRefusal meaning LogFull = IsTrue (is_writing meaning)
IsSetRefusal meaning LogRefused = IsTrue (is_writing meaning)
IsSetRefusal meaning Spent = Unit {0}
IsSetRefusal meaning OutOfStep = Unit {0}
IsSetRefusal meaning _ = ⊥

-- why a table refuses a command: its set or its place does, or it creates, and every place bears another name than its key
abbrev pub IsTableRefusal : Meaning → PassView → Refusal → Type 0
IsTableRefusal meaning pass TableFull = IsTrue (is_creating meaning) × (key : List ℕ) × (key_of meaning ≡ Some key) × IsFull pass.notes.known key
IsTableRefusal meaning pass e = IsSetRefusal meaning e

-- a command may be asked at a place: the pass is the table's, the place one of its places, and the command has a key
pub record MayBeAskedAt (table : TableView) (pass : PassView) (place : ℕ) (command : Asked) : Type 0 where
  pub own : IsPassOf table pass
  pub within : place < length table.opened
  pub keyed : IsSome (key_of command.meaning)

-- a pass is the table's after an answer too, and its number and notes stay
pub record KeepsPass (table : TableView) (old new : PassView) : Type 0 where
  pub own : IsPassOf table new
  pub number : new.number ≡ old.number
  pub notes : new.notes ≡ old.notes

-- a place's answer, by a pass's shares before and after; or a refusal, at which they stay
abbrev pub IsAnsweredAt : List ℕ → List ShareView → List ShareView → ℕ → Asked → Result AnswerView Refusal → Type 0
IsAnsweredAt opened before after place command (Ok a) = WasAnswered opened before after place command a
IsAnsweredAt opened before after place command (Err refusal) = (after ≡ before) × IsSetRefusal command.meaning refusal
