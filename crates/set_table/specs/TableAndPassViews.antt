-- Tables and their passes.
use Rattle.std.specs.Prelude.{◌≡◌, ℕ, ◌≤◌, ◌<◌, ◌⊎◌, List, length, false}
use Rattle.std.proofs.Math.ListN.{get_or, set}
use Rattle.zset_commands.specs.AbstractCommand.{Asked, is_writing}
use Rattle.place_names.specs.Naming.{NotesView, AreNotesOf}
use Rattle.set_table.specs.PassTallies.{ShareView, share_after_run, empty_tally, no_counts}
use Rattle.set_table.specs.LoggedStep.{AnswerView, IsLawful}

-- a table: its places' names (each once cell's own), the members of each place at opening, how many passes it has, how
-- many runs a place may answer, and how many records its log had at opening
pub record TableView : Type 0 where
  pub names : List ℕ
  pub opened : List ℕ
  pub passes : ℕ
  pub max_runs : ℕ
  pub records_before : ℕ

-- a worker's pass: its number, what it knows of the names, what it was answered at each place, and how many bytes of
-- memory it keeps back for removals
pub record PassView : Type 0 where
  pub number : ℕ
  pub notes : NotesView
  pub shares : List ShareView
  pub kept : ℕ

-- how many bytes a pass keeps back, once its worker was answered a command that makes sets (KEPT_BACK in code)
abbrev pub kept_back : ℕ
kept_back = 131072

abbrev pub no_share : ShareView
no_share = record { place = 0; pass = 0; opened = 0; tally = empty_tally }

-- the shares of pass `number` at a place of a table opened so
pub record IsShareOf (opened : List ℕ) (number place : ℕ) (s : ShareView) : Type 0 where
  pub place_is : s.place ≡ place
  pub pass_is : s.pass ≡ number
  pub opened_is : s.opened ≡ get_or opened place 0

pub record AreSharesOf (opened : List ℕ) (number : ℕ) (shares : List ShareView) : Type 0 where
  pub places : length shares ≡ length opened
  pub each : (place : ℕ) → place < length opened → IsShareOf opened number place (get_or shares place no_share)

-- the pass is one of the table's
pub record IsPassOf (table : TableView) (pass : PassView) : Type 0 where
  pub notes : AreNotesOf table.names pass.notes
  pub shares : AreSharesOf table.opened pass.number pass.shares

-- what an answer at a place says by the pass's shares before and after: a run moved those of the place alone, or the
-- command only reads and moved none
pub record WasAnswered (opened : List ℕ) (before after : List ShareView) (place : ℕ) (command : Asked) (a : AnswerView) : Type 0 where
  pub command_is : a.command ≡ command
  pub place_is : a.place ≡ place
  pub lawful : IsLawful a.command a.reply a.found a.own
  pub opened_is : a.found.opened ≡ get_or opened place 0
  pub added : (get_or before place no_share).tally.added ≤ a.found.added
  pub removed : (get_or before place no_share).tally.removed ≤ a.found.removed
  pub told : (after ≡ set before place (share_after_run (get_or before place no_share) a.own)) ⊎ ((is_writing command.meaning ≡ false) × (after ≡ before) × (a.own ≡ no_counts))
