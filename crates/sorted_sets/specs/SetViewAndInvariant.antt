-- What callers see of a set, and what holds of it between two calls.
use Rattle.std.specs.Prelude.{◌≡◌, ℕ, ◌≤◌, List, length, take, Option, None, Some}
use Rattle.std.specs.FinMap as fin
use Rattle.resp_wire.specs.Response.{response_of}
use Rattle.sorted_sets.specs.MembersWithStagedScores.{Entry, current_score, names_at, rows_by, staged_score, members_by, ScoresAreSettled, IsWaiting, IsWithin}
use Rattle.ripple_column.specs.Content.{ColumnState, Holds}
use Rattle.ripple_column.specs.RangeAnswer.{HoldsRange, IsAnswer}
use Rattle.zset_commands.specs.AbstractCommand.{Meaning, range_to_remove}
use Rattle.zset_core.specs.RowEdits.{TurnsInto}
use Rattle.zset_commands.specs.RequestLimits.{names_in}
use Rattle.sorted_sets.specs.MovedMembers.{moved_names}
use Rattle.sorted_sets.specs.Plan.{HasMovedPlaces, coming_rows, kept_by, replaced_rows, left_by, moved_by, range_of, removed_by, reply_of, count_coming, count_leaving, touched_by}
use Rattle.zset_core.specs.SortedSet.{pairs}
use Rattle.sorted_sets.specs.declared.set.plan.LeavingRange.{LeavingRange}
use Rattle.sorted_sets.specs.declared.set.plan.Plan.{Plan}
use Rattle.sorted_sets.specs.declared.set.plan.Plan.TheVariants.{Scores, Removal, RangeRemoval}
use Rattle.sorted_sets.specs.SetAndOwnerViews.{SetView, Next}
use Rattle.sorted_sets.specs.declared.set.Prepared.{Prepared}

-- what is prepared: the command's meaning, the members that its commit leaves, and its reply
abbrev pub next_of : {A : Type 0} → List Entry → Prepared A → Next
next_of entries p = record { meaning = p.asked.value.meaning; members = left_by entries p.plan; reply = response_of (reply_of p.plan) }

-- while a command is prepared the members are those from before it
abbrev pub view_of : {A : Type 0} → List Entry → ColumnState → Option (Prepared A) → SetView
view_of entries column None = record { members = members_by current_score entries; next = None; column = column }
view_of entries column (Some p) = record { members = fin.from_entries (take (kept_by entries p.plan) (rows_by current_score entries)); next = Some (next_of entries p); column = column }

-- a set with nothing prepared: no score waits, and the content of its column is the bag of the members' pairs
pub record IsIdle (entries : List Entry) (column : ColumnState) : Type 0 where
  pub settled : ScoresAreSettled entries
  pub content : Holds column (pairs (members_by current_score entries))

-- the pending lists of a column have room for what a plan puts there
pub record HasRoomForPlan {A : Type 0} (column : ColumnState) (plan : Plan A) : Type 0 where
  pub coming : count_coming plan ≤ column.insert_spare
  pub leaving : count_leaving plan ≤ column.delete_spare

-- the rows of a range whose members leave stand at its places, and nothing waits in it
pub record RangeStandsIn (column : ColumnState) (leaving : LeavingRange) : Type 0 where
  pub answer : IsAnswer column leaving.range (leaving.from, leaving.to)
  pub rows : HoldsRange column leaving.range (leaving.from, leaving.to)

-- a column is ready for a plan: it has room for its rows, or the rows of its range stand there
abbrev pub IsReadyForPlan : {A : Type 0} → ColumnState → Plan A → Type 0
IsReadyForPlan column (Scores plan) = HasRoomForPlan column (Scores plan)
IsReadyForPlan column (Removal plan) = HasRoomForPlan column (Removal plan)
IsReadyForPlan column (RangeRemoval plan) = RangeStandsIn column plan.leaving

-- a set with a plan: the content is the bag of the pairs from before, and the rows of scores turn it into the bag of those with the
-- staged scores; the places of members that leave by their names are there. The members at the places that move are those that
-- the command names and moves. That what the commit leaves is what the command makes of the set is what `prepare` ensures
pub record IsPlanned {A : Type 0} (entries : List Entry) (column : ColumnState) (meaning : Meaning) (plan : Plan A) : Type 0 where
  pub kept : kept_by entries plan ≤ length entries
  pub waiting : IsWaiting (touched_by plan) entries
  pub content : Holds column (pairs (fin.from_entries (take (kept_by entries plan) (rows_by current_score entries))))
  pub turns : TurnsInto column (members_by staged_score entries) (coming_rows plan) (replaced_rows plan)
  pub removed : IsWithin (length entries) (removed_by plan)
  pub ready : IsReadyForPlan column plan
  pub range : range_of plan ≡ range_to_remove meaning
  pub counted : HasMovedPlaces plan entries
  pub moved : names_at entries (moved_by plan)
      ≡ moved_names (fin.from_entries (take (kept_by entries plan) (rows_by current_score entries))) (left_by entries plan) (names_in meaning)

-- what holds of every set
abbrev pub IsSoundSet : {A : Type 0} → List Entry → ColumnState → Option (Prepared A) → Type 0
IsSoundSet entries column None = IsIdle entries column
IsSoundSet entries column (Some p) = IsPlanned entries column p.asked.value.meaning p.plan

-- the number of entries from before what is prepared: of the members that callers see
abbrev pub kept_of : {A : Type 0} → List Entry → Option (Prepared A) → ℕ
kept_of entries None = length entries
kept_of entries (Some p) = kept_by entries p.plan
