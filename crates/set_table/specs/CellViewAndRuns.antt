-- Cells: what holds of each whose lock is free, and what a run or a reading leaves and answers.
use Rattle.std.specs.Prelude.{◌≡◌, ℕ, ◌+◌, ◌*◌, ◌^◌, ◌≤◌, ◌<◌, List, length, None}
use Rattle.std.proofs.Math.ListN.{get_or, set, replicate}
use Rattle.std.specs.FinMap as fin
use Rattle.zset_commands.specs.AbstractCommand.{Asked}
use Rattle.zset_core.specs.RowEdits.{most_edits}
use Rattle.sorted_sets.specs.SetAndOwnerViews.{SetView}
use Rattle.zset_commands.specs.declared.refusal.Refusal.{Refusal}
use Rattle.zset_commands.specs.declared.refusal.Refusal.TheVariants.{NoMemory, UnknownCommand, WrongArity, Syntax, NxAndXx, GtLtNx, IncrPair, BadScore, BadBound, BadInteger, TableFull, ScoreOverflow, LogBroken, LogFull, LogRefused, Spent, OutOfStep}
use Rattle.set_table.specs.declared.member_change_counts.Tally.{Tally}
use Rattle.set_table.specs.declared.limits.TheConstants.{MAX_RUNS}
use Rattle.set_table.specs.declared.member_change_counts.Counts.{Counts}
use Rattle.set_table.specs.PassTallies.{ShareView, runs_of, added_of, removed_of, empty_tally, tally_after, share_after_run, no_counts}
use Rattle.set_table.specs.LoggedStep.{AnswerView, SetStepped, IsLawful, IsLogged, IsHindered}

-- a cell: its place's number, its set, the members at opening, how many runs it may answer, for each pass what it was
-- answered here, and how many records were appended for it
pub record CellView : Type 0 where
  pub place : ℕ
  pub sorted_set : SetView
  pub opened : ℕ
  pub max_runs : ℕ
  pub tallies : List Tally
  pub appended : ℕ

-- a cell of a set, of which no pass was told anything yet
abbrev pub new_cell : ℕ → SetView → ℕ → ℕ → ℕ → CellView
new_cell place set max_runs passes appended = record { place = place; sorted_set = set; opened = fin.len set.members; max_runs = max_runs; tallies = replicate passes empty_tally; appended = appended }

-- nothing is prepared, and the members are those at opening and what the passes were told since
pub record CellIsWhole (c : CellView) : Type 0 where
  pub idle : c.sorted_set.next ≡ None
  pub adds_up : fin.len c.sorted_set.members + removed_of c.tallies ≡ c.opened + added_of c.tallies
  pub within : runs_of c.tallies ≤ c.max_runs
  pub bounded : added_of c.tallies ≤ most_edits * runs_of c.tallies
  pub max_fits : c.max_runs ≤ MAX_RUNS
  pub opened_fits : c.opened < 2 ^ 63

-- the cell and the shares of a pass tell the same: place, members at opening, and what the pass was answered here
pub record InStep (c : CellView) (s : ShareView) : Type 0 where
  pub place : c.place ≡ s.place
  pub opened : c.opened ≡ s.opened
  pub pass : s.pass < length c.tallies
  pub tally : get_or c.tallies s.pass empty_tally ≡ s.tally

abbrev pub counts_of : CellView → Counts
counts_of c = record { opened = c.opened; added = added_of c.tallies; removed = removed_of c.tallies }

-- what a run that was answered leaves of the cell (c, d) and of the pass's shares (s, t)
pub record HasRun (c d : CellView) (s t : ShareView) (command : Asked) (a : AnswerView) : Type 0 where
  pub in_step : InStep c s
  pub still : InStep d t
  pub room : runs_of c.tallies < c.max_runs
  pub stepped : SetStepped c.sorted_set.members d.sorted_set.members command a.reply a.own
  pub logged : IsLogged c.sorted_set.members d.sorted_set.members c.appended d.appended
  pub cell : d ≡ record c { sorted_set = d.sorted_set; tallies = set c.tallies s.pass (tally_after s.tally a.own); appended = d.appended }
  pub share : t ≡ share_after_run s a.own
  pub command_is : a.command ≡ command
  pub place_is : a.place ≡ c.place
  pub found_is : a.found ≡ counts_of c
  pub lawful : IsLawful a.command a.reply a.found a.own

-- why a cell refuses a command: OutOfStep is asked first, then Spent, then the set's step is tried
abbrev pub HasCause : Refusal → CellView → ShareView → Asked → Type 0
HasCause NoMemory c s command = InStep c s × (runs_of c.tallies < c.max_runs)
HasCause ScoreOverflow c s command = InStep c s × (runs_of c.tallies < c.max_runs) × IsHindered ScoreOverflow c.sorted_set.members command
HasCause LogBroken c s command = InStep c s × (runs_of c.tallies < c.max_runs) × IsHindered LogBroken c.sorted_set.members command
HasCause LogFull c s command = InStep c s × (runs_of c.tallies < c.max_runs) × IsHindered LogFull c.sorted_set.members command
HasCause LogRefused c s command = InStep c s × (runs_of c.tallies < c.max_runs) × IsHindered LogRefused c.sorted_set.members command
HasCause Spent c s command = InStep c s × (runs_of c.tallies ≡ c.max_runs)
HasCause OutOfStep c s command = InStep c s → ⊥
HasCause UnknownCommand c s command = ⊥
HasCause WrongArity c s command = ⊥
HasCause Syntax c s command = ⊥
HasCause NxAndXx c s command = ⊥
HasCause GtLtNx c s command = ⊥
HasCause IncrPair c s command = ⊥
HasCause BadScore c s command = ⊥
HasCause BadBound c s command = ⊥
HasCause BadInteger c s command = ⊥
HasCause TableFull c s command = ⊥

-- what a run that was refused leaves; the set's column may have merged pending rows all the same
pub record RunIsRefused (c d : CellView) (s t : ShareView) (command : Asked) (e : Refusal) : Type 0 where
  pub cell : d ≡ record c { sorted_set = d.sorted_set }
  pub members : d.sorted_set.members ≡ c.sorted_set.members
  pub share : t ≡ s
  pub cause : HasCause e c s command

-- what a reading under a shared lock answers
pub record HasRead (c : CellView) (s : ShareView) (command : Asked) (a : AnswerView) : Type 0 where
  pub in_step : InStep c s
  pub stepped : SetStepped c.sorted_set.members c.sorted_set.members command a.reply a.own
  pub own_is : a.own ≡ no_counts
  pub command_is : a.command ≡ command
  pub place_is : a.place ≡ c.place
  pub found_is : a.found ≡ counts_of c
  pub lawful : IsLawful a.command a.reply a.found a.own

-- why a cell refuses it
abbrev pub HasNoReading : Refusal → CellView → ShareView → Type 0
HasNoReading NoMemory c s = InStep c s
HasNoReading OutOfStep c s = InStep c s → ⊥
HasNoReading _ c s = ⊥

-- what a run that was answered says to a caller who sees the pass's shares and not the cell
pub record WasRun (s t : ShareView) (command : Asked) (a : AnswerView) : Type 0 where
  pub command_is : a.command ≡ command
  pub place_is : a.place ≡ s.place
  pub lawful : IsLawful a.command a.reply a.found a.own
  pub opened_is : a.found.opened ≡ s.opened
  pub added : s.tally.added ≤ a.found.added
  pub removed : s.tally.removed ≤ a.found.removed
  pub share : t ≡ share_after_run s a.own
