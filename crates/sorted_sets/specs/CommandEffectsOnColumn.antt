-- What commands do to the column of a set.
use Rattle.std.specs.Prelude.{Option, None, Some, Result, MatchResult, ◌≡◌, ℕ, ◌+◌, ◌-◌, ◌≤◌, Bool, true, false, List, ℤ, option_map, unwrap_or}
use Rattle.std.specs.FinMap as fin
use Rattle.score_bounds.specs.declared.ranges_and_cuts.Range.{Range}
use Rattle.ripple_column.specs.RangeAnswer.{AddsCuts, HasAnswer, low_cut, high_cut}
use Rattle.ripple_column.specs.RangeEffects.{Selects}
use Rattle.ripple_column.specs.Content.{ColumnState, IsUnchanged, SameOutside, max_pending, most_pending}
use Rattle.ripple_column.specs.RangeCutsAsPivots.{is_before, values}
use Rattle.zset_core.specs.SortedSet.{Members}
use Rattle.zset_commands.specs.AbstractCommand.{Meaning, Ping, Asks, Changes, Question, Score, Card, Count, ListRange, Change, Add, Increase, Remove, RemoveRange}
use Rattle.zset_core.specs.Semantics.{outcome_of, counted, count_all, sum_of, remove_all}
use Rattle.zset_commands.specs.declared.limit.Limit.{Limit}
use Rattle.zset_commands.specs.declared.flags.Flags.{Flags}

-- whether a change names its members: ZADD and ZREM. ZREMRANGEBYSCORE names a range
abbrev pub names_members : Change → Bool
names_members (Add flags changed pairs) = true
names_members (Increase flags given member) = true
names_members (Remove members) = true
names_members (RemoveRange range) = false

abbrev pub changes_named : Meaning → Bool
changes_named (Ping text) = false
changes_named (Asks key question) = false
changes_named (Changes key change) = names_members change

-- INCR writes its pair or leaves it
abbrev pub increase_edits : Flags → Members → List ℕ → ℤ → ℕ
increase_edits flags members member given =
    let old = fin.get members member in
    unwrap_or (option_map (λ score. counted true (outcome_of flags old score)) (sum_of old given)) 0

-- how many edits such a change makes: the pairs that it adds or changes, or the members that it takes out
abbrev pub edits_of : Members → Change → ℕ
edits_of members (Add flags changed pairs) = count_all flags true members pairs
edits_of members (Increase flags given member) = increase_edits flags members member given
edits_of members (Remove names) = fin.len members - fin.len (remove_all members names)
edits_of members (RemoveRange range) = 0

-- room is made for edits: what waits is merged only where so many edits would not fit beside the longer of the two lists that
-- wait, and a merge moves the pivots' places and not their values
pub record MakesRoom (edits : ℕ) (old new : ColumnState) : Type 0 where
  pub pivots : values new.pivots ≡ values old.pivots
  pub still : most_pending old + edits ≤ max_pending → IsUnchanged old new

-- a change of a set with these members is prepared, or refused. ZADD and ZREM make room for their edits, refused too;
-- ZREMRANGEBYSCORE asks the column for its range, which merges and cracks there alone, and refused it changes nothing
abbrev pub MakesReady : {T E : Type 0} → Change → Members → Result T E → ColumnState → ColumnState → Type 0
MakesReady (Add flags changed pairs) members result old new = MakesRoom (edits_of members (Add flags changed pairs)) old new
MakesReady (Increase flags given member) members result old new = MakesRoom (edits_of members (Increase flags given member)) old new
MakesReady (Remove names) members result old new = MakesRoom (edits_of members (Remove names)) old new
MakesReady (RemoveRange range) members result old new = MatchResult result (λ _. Selects range old new) (λ _. IsUnchanged old new)

-- what becomes of the column of a set as a command is prepared in it
abbrev pub PreparesColumn : {T E : Type 0} → Meaning → Members → Result T E → ColumnState → ColumnState → Type 0
PreparesColumn (Ping text) members result old new = IsUnchanged old new
PreparesColumn (Asks key question) members result old new = IsUnchanged old new
PreparesColumn (Changes key change) members result old new = MakesReady change members result old new

-- a window of a range is to be listed: the column gets its answer for the range, as where the range alone is asked for, and rows
-- may move between the pivots
pub record SelectsWindow (range : Range) (old new : ColumnState) : Type 0 where
  pub answer : HasAnswer new range
  pub waiting_insertions : SameOutside range old.insertions new.insertions
  pub waiting_deletions : SameOutside range old.deletions new.deletions
  pub pivots : is_before (low_cut range) (high_cut range) ≡ true → AddsCuts range old.pivots new.pivots
  pub empty : is_before (low_cut range) (high_cut range) ≡ false → IsUnchanged old new

-- a range is to be listed, all of it or the window that LIMIT asks for
abbrev pub SelectsListed : Option Limit → Range → ColumnState → ColumnState → Type 0
SelectsListed None range old new = Selects range old new
SelectsListed (Some limit) range old new = SelectsWindow range old new

-- what a question does to the column of its set: only one that names a range changes it
abbrev pub Reads : Question → ColumnState → ColumnState → Type 0
Reads (Score member) old new = IsUnchanged old new
Reads Card old new = IsUnchanged old new
Reads (Count range) old new = Selects range old new
Reads (ListRange range with_scores limit) old new = SelectsListed limit range old new

abbrev pub ReadsFor : Meaning → ColumnState → ColumnState → Type 0
ReadsFor (Ping text) old new = IsUnchanged old new
ReadsFor (Asks key question) old new = Reads question old new
ReadsFor (Changes key change) old new = IsUnchanged old new
