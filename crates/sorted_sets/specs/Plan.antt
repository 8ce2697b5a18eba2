-- What a plan holds, and what its commit does: the plan of scores that members get, of members that leave by their names, or of
-- a range whose members leave.
use Rattle.std.specs.Prelude.{◌≡◌, ◌≤◌, ◌+◌, ◌++◌, ℕ, List, [], length, take, Option, None, Some}
use Rattle.std.specs.List.{list_any, range_with_len}
use Rattle.std.specs.Str.{bytes_eq}
use Rattle.resp_wire.specs.Response.{Response, response_of}
use Rattle.resp_messages.specs.declared.reply.Reply.{Reply}
use Rattle.ripple_column.specs.Content.{ColumnState}
use Rattle.ripple_column.specs.RangeEffects.{TakesOut}
use Rattle.sorted_sets.specs.MovedMembers.{moved_names}
use Rattle.zset_core.specs.SortedSet.{Members, Pair}
use Rattle.score_bounds.specs.declared.ranges_and_cuts.Range.{Range}
use Rattle.zset_core.specs.Semantics.{remove_all, without_range}
use Rattle.sorted_sets.specs.MembersWithStagedScores.{Entry, current_score, staged_score, members_by, names_at, IsWaiting, IsWithin, Grows}
use Rattle.sorted_sets.specs.ChangeCounts.{IsOutline}
use Rattle.zset_core.specs.RowEdits.{Turns, most_edits}
use Rattle.sorted_sets.specs.declared.set.change_counts.Outline.{Outline}
use Rattle.sorted_sets.specs.declared.set.draft.Draft.{Draft}
use Rattle.sorted_sets.specs.declared.set.plan.Plan.{Plan}
use Rattle.sorted_sets.specs.declared.set.plan.Plan.TheVariants.{Scores, Removal, RangeRemoval}
use Rattle.sorted_sets.specs.declared.set.plan.RemovalPlan.{RemovalPlan}

-- the set without the members of a range, if one is given
abbrev pub without_given : Option Range → Members → Members
without_given None members = members
without_given (Some range) members = without_range range members

-- the range whose members a plan takes out, if it is one of a range
abbrev pub range_of : {A : Type 0} → Plan A → Option Range
range_of (Scores plan) = None
range_of (Removal plan) = None
range_of (RangeRemoval plan) = Some plan.leaving.range

-- the places of the members that leave by their names
abbrev pub removed_by : {A : Type 0} → Plan A → List ℕ
removed_by (Scores plan) = []
removed_by (Removal plan) = plan.places.keys
removed_by (RangeRemoval plan) = []

-- the places where other scores may wait
abbrev pub touched_by : {A : Type 0} → Plan A → List ℕ
touched_by (Scores plan) = plan.draft.touched.items
touched_by (Removal plan) = []
touched_by (RangeRemoval plan) = []

-- how many entries were there before a plan; those behind them come in only by its commit
abbrev pub kept_by : {A : Type 0} → List Entry → Plan A → ℕ
kept_by entries (Scores plan) = plan.draft.kept
kept_by entries (Removal plan) = length entries
kept_by entries (RangeRemoval plan) = length entries

-- the rows of a plan of scores: the new ones, and those that members had which get another score. Rows of members that leave are
-- none of them
abbrev pub coming_rows : {A : Type 0} → Plan A → List Pair
coming_rows (Scores plan) = plan.draft.edits.coming.items
coming_rows (Removal plan) = []
coming_rows (RangeRemoval plan) = []

abbrev pub replaced_rows : {A : Type 0} → Plan A → List Pair
replaced_rows (Scores plan) = plan.draft.edits.leaving.items
replaced_rows (Removal plan) = []
replaced_rows (RangeRemoval plan) = []

-- the reply that a commit gives, and its plan in numbers
abbrev pub reply_of : {A : Type 0} → Plan A → Reply A
reply_of (Scores plan) = plan.reply
reply_of (Removal plan) = plan.reply
reply_of (RangeRemoval plan) = plan.reply

abbrev pub outline_of : {A : Type 0} → Plan A → Outline
outline_of (Scores plan) = plan.outline
outline_of (Removal plan) = plan.outline
outline_of (RangeRemoval plan) = plan.outline

-- the set once the members that a plan names have come in, got their scores or left
abbrev pub edited_by : {A : Type 0} → List Entry → Plan A → Members
edited_by entries plan = remove_all (members_by staged_score entries) (names_at entries (removed_by plan))

-- the set that a commit leaves
abbrev pub left_by : {A : Type 0} → List Entry → Plan A → Members
left_by entries plan = without_given (range_of plan) (edited_by entries plan)

-- how many rows a plan's commit puts among the pending insertions at most, and among the pending deletions
abbrev pub count_coming : {A : Type 0} → Plan A → ℕ
count_coming plan = length (coming_rows plan)

abbrev pub count_leaving : {A : Type 0} → Plan A → ℕ
count_leaving plan = length (replaced_rows plan) + length (removed_by plan)

-- at most this number of each
pub record NeedsAtMost {A : Type 0} (most : ℕ) (plan : Plan A) : Type 0 where
  pub coming : count_coming plan ≤ most
  pub leaving : count_leaving plan ≤ most

-- from the old entries a plan was made whose commit leaves a set and gives a reply
pub record Prepares {A : Type 0} (old new : List Entry) (plan : Plan A) (members : Members) (reply : Response) : Type 0 where
  pub kept : kept_by new plan ≡ length old
  pub grows : Grows old new
  pub waiting : IsWaiting (touched_by plan) new
  pub members_are : left_by new plan ≡ members
  pub reply_is : response_of (reply_of plan) ≡ reply
  pub edits_are : Turns (members_by current_score old) (members_by staged_score new) (coming_rows plan) (replaced_rows plan)
  pub removed_are : IsWithin (length new) (removed_by plan)
  pub few_rows : NeedsAtMost most_edits plan
  pub outline_is : IsOutline (outline_of plan) (members_by current_score old) members

-- the same of what a command makes of a set; no plan is made where a sum of INCR is no score
abbrev pub Plans : {A : Type 0} → List Entry → List Entry → Plan A → Option (Members × Response) → Type 0
Plans old new plan None = ⊥
Plans old new plan (Some done) = Prepares old new plan done.0 done.1

-- the places of the members that a draft moves, in order: those of the new members that lead, which were named before any other
-- place was noted, and the first of those that it noted from then on
abbrev pub moved_places : {A : Type 0} → Draft A → List ℕ
moved_places draft = range_with_len draft.kept draft.leading ++ take draft.moved draft.touched.items

-- so many are there
pub record IsCounted {A : Type 0} (draft : Draft A) (entries : List Entry) : Type 0 where
  pub leading : draft.kept + draft.leading ≤ length entries
  pub moved : draft.moved ≤ length draft.touched.items

-- the order of a removal has the members that leave, and only these
pub record IsOrdered {A : Type 0} (plan : RemovalPlan A) (entries : List Entry) : Type 0 where
  pub within : IsWithin (length entries) plan.order.items
  pub same : (q : List ℕ) → list_any (bytes_eq q) (names_at entries plan.order.items) ≡ list_any (bytes_eq q) (names_at entries plan.places.keys)

-- the places of the members that a plan moves and names, in the order in which they are first named
abbrev pub moved_by : {A : Type 0} → Plan A → List ℕ
moved_by (Scores plan) = moved_places plan.draft
moved_by (Removal plan) = plan.order.items
moved_by (RangeRemoval plan) = []

-- the numbers of a draft are in bounds, and the order of a removal is that of its places
abbrev pub HasMovedPlaces : {A : Type 0} → Plan A → List Entry → Type 0
HasMovedPlaces (Scores plan) entries = IsCounted plan.draft entries
HasMovedPlaces (Removal plan) entries = IsOrdered plan entries
HasMovedPlaces (RangeRemoval plan) entries = IsWithin (length entries) []

-- the members that a plan moves are those among some names that have another score in a set than they had, or none, or one where
-- they had none: each once, in order
pub record MovesTo {A : Type 0} (old new : List Entry) (plan : Plan A) (names : List (List ℕ)) (members : Members) : Type 0 where
  pub counted : HasMovedPlaces plan new
  pub names_are : names_at new (moved_by plan) ≡ moved_names (members_by current_score old) members names

-- the same of what a command makes of a set
abbrev pub Moves : {A : Type 0} → List Entry → List Entry → Plan A → List (List ℕ) → Option (Members × Response) → Type 0
Moves old new plan names None = ⊥
Moves old new plan names (Some done) = MovesTo old new plan names done.0

-- what a plan's commit does to the rows and pivots of the column: rows of named members only come to wait; those of a range leave
pub record OnlyWaits (old new : ColumnState) : Type 0 where
  pub rows : new.rows ≡ old.rows
  pub pivots : new.pivots ≡ old.pivots

abbrev pub CommitsIn : {A : Type 0} → Plan A → ColumnState → ColumnState → Type 0
CommitsIn (Scores plan) old new = OnlyWaits old new
CommitsIn (Removal plan) old new = OnlyWaits old new
CommitsIn (RangeRemoval plan) old new = TakesOut plan.leaving.range old new
