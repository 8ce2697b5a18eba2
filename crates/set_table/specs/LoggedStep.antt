-- One command on one set: what it leaves, what is counted of it, when its record is appended.
use Rattle.std.specs.Prelude.{◌≡◌, ◌≢◌, ℕ, ◌+◌, ◌≤◌, ◌⊎◌, Some, None, IsTrue}
use Rattle.std.specs.FinMap as fin
use Rattle.resp_wire.specs.Response.{Response}
use Rattle.zset_core.specs.SortedSet.{Members}
use Rattle.zset_commands.specs.AbstractCommand.{Asked, is_writing}
use Rattle.sorted_sets.specs.ChangeCounts.{missing}
use Rattle.zset_core.specs.RowEdits.{most_edits}
use Rattle.zset_core.specs.Semantics.{step}
use Rattle.zset_commands.specs.declared.refusal.Refusal.{Refusal}
use Rattle.zset_commands.specs.declared.refusal.Refusal.TheVariants.{NoMemory, ScoreOverflow, LogBroken, LogFull, LogRefused}
use Rattle.set_table.specs.declared.member_change_counts.Counts.{Counts}
use Rattle.set_table.specs.declared.member_change_counts.OwnCounts.{OwnCounts}

-- what a command made of a set, its reply, and how many members came in and left
pub record SetStepped (old new : Members) (command : Asked) (reply : Response) (own : OwnCounts) : Type 0 where
  pub step_is : step old command.meaning ≡ Some (new, reply)
  pub added : own.added ≡ missing old new
  pub removed : own.removed ≡ missing new old
  pub sums : fin.len new + own.removed ≡ fin.len old + own.added
  pub few : own.added ≤ most_edits

-- reply and counts are those of one step, on some set that has as many members as the counts that were found say
pub record IsLawful (command : Asked) (reply : Response) (found : Counts) (own : OwnCounts) : Type 0 where
  pub members : Members
  pub after : Members
  pub size : fin.len members + found.removed ≡ found.opened + found.added
  pub stepped : SetStepped members after command reply own

-- one record was appended where the set became another, and else none
pub record IsLogged (old new : Members) (before after : ℕ) : Type 0 where
  pub which : ((new ≡ old) × (after ≡ before)) ⊎ ((new ≢ old) × (after ≡ before + 1))

-- the command makes another set of this one
pub record ChangesSet (members : Members) (command : Asked) : Type 0 where
  pub writes : IsTrue (is_writing command.meaning)
  pub next : Members
  pub reply : Response
  pub step_is : step members command.meaning ≡ Some (next, reply)
  pub other : next ≢ members

-- why a command does not take its step: a sum of INCR is no score, or the record of a change is not appended
abbrev pub IsHindered : Refusal → Members → Asked → Type 0
IsHindered NoMemory members command = Unit {0}
IsHindered ScoreOverflow members command = step members command.meaning ≡ None
IsHindered LogBroken members command = ChangesSet members command
IsHindered LogFull members command = ChangesSet members command
IsHindered LogRefused members command = ChangesSet members command
IsHindered _ members command = ⊥

-- why a record is not appended
abbrev pub IsAppendRefusal : Refusal → Type 0
IsAppendRefusal NoMemory = Unit {0}
IsAppendRefusal LogBroken = Unit {0}
IsAppendRefusal LogFull = Unit {0}
IsAppendRefusal LogRefused = Unit {0}
IsAppendRefusal _ = ⊥

-- what contracts see of an answer
pub record AnswerView : Type 0 where
  pub command : Asked
  pub place : ℕ
  pub reply : Response
  pub found : Counts
  pub own : OwnCounts
