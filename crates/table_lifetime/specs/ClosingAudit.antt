-- What a table's passes come to together when the table is closed.
use Rattle.std.specs.Prelude.{◌≡◌, ℕ, ◌+◌, ◌-◌, ◌<◌, ◌⊎◌, min, List, length, zero, suc, Some}
use Rattle.std.specs.List.{sum_by}
use Rattle.std.proofs.Math.ListN.{get_or}
use Rattle.std.specs.FinMap as fin
use Rattle.set_table.specs.CellViewAndRuns.{CellView, CellIsWhole, InStep}
use Rattle.place_names.specs.Naming.{name_at_place, IsPlace}
pub use Rattle.table_lifetime.specs.Opening.{no_pass, pass_at, sum_of_numbers}
use Rattle.set_table.specs.TableAndPassViews.{PassView, no_share}
use Rattle.set_table.specs.PassTallies.{ShareView}
use Rattle.table_lifetime.specs.declared.closing_audit.totals.Totals.{Totals}

abbrev pub share_at : PassView → ℕ → ShareView
share_at pass place = get_or pass.shares place no_share

-- the passes' numbers are 0 to count - 1, each once
pub record AreNumbered (passes : List PassView) (count : ℕ) : Type 0 where
  pub as_many : length passes ≡ count
  pub each : (number : ℕ) → number < count → (i : ℕ) × (i < length passes) × ((pass_at passes i).number ≡ number)

-- how many members came in and left at a place, by what the passes were answered there
abbrev pub added_at : List PassView → ℕ → ℕ
added_at passes place = sum_by (λ p. (share_at p place).tally.added) passes

abbrev pub removed_at : List PassView → ℕ → ℕ
removed_at passes place = sum_by (λ p. (share_at p place).tally.removed) passes

-- the members of a place then
abbrev pub members_at : List PassView → List ℕ → ℕ → ℕ
members_at passes opened place = get_or opened place 0 + added_at passes place - removed_at passes place

-- f of 0 to n - 1, added up
abbrev pub sum_below : ℕ → (ℕ → ℕ) → ℕ
sum_below zero f = 0
sum_below (suc n) f = sum_below n f + f n

-- the totals of a table whose places had so many members at opening: sums over its places, of which those with a member
-- are the sets
pub record AddsUp (passes : List PassView) (opened : List ℕ) (t : Totals) : Type 0 where
  pub opened_is : t.opened ≡ sum_of_numbers opened
  pub added : t.added ≡ sum_below (length opened) (λ place. added_at passes place)
  pub removed : t.removed ≡ sum_below (length opened) (λ place. removed_at passes place)
  pub members : t.members ≡ sum_below (length opened) (λ place. members_at passes opened place)
  pub sets : t.sets ≡ sum_below (length opened) (λ place. min (members_at passes opened place) 1)
  pub balance : t.members + t.removed ≡ t.opened + t.added

-- a place's cell, as it was when the table was closed: it was whole, might answer as many runs as the table says, and told of
-- each pass what that pass was answered there
pub record Agrees (passes : List PassView) (max_runs place : ℕ) (cell : CellView) : Type 0 where
  pub whole : CellIsWhole cell
  pub runs : cell.max_runs ≡ max_runs
  pub as_many : length cell.tallies ≡ length passes
  pub in_step : (i : ℕ) → i < length passes → InStep cell (share_at (pass_at passes i) place)

-- so many members and records are those of the cells of the first n places together, each of which agrees with the passes
abbrev pub AreOfCells : List PassView → ℕ → ℕ → ℕ → ℕ → Type 0
AreOfCells passes max_runs zero members records = (members ≡ 0) × (records ≡ 0)
AreOfCells passes max_runs (suc n) members records =
    (cell : CellView) × Agrees passes max_runs n cell
    × (m : ℕ) × (r : ℕ) × AreOfCells passes max_runs n m r × (members ≡ m + fin.len cell.sorted_set.members) × (records ≡ r + cell.appended)

-- a place's cell is out of step: its members at opening are others, or it may answer another number of runs, or does not tell
-- what the passes were answered there
pub record HasOtherCell (passes : List PassView) (max_runs : ℕ) (opened : List ℕ) : Type 0 where
  pub place : ℕ
  pub within : place < length opened
  pub cell : CellView
  pub whole : CellIsWhole cell
  pub differs : cell.opened ≡ get_or opened place 0 → Agrees passes max_runs place cell → ⊥

-- the cells' records, with those before, are not as many as the log has
pub record HasOtherRecords (passes : List PassView) (max_runs places before : ℕ) : Type 0 where
  pub members : ℕ
  pub records : ℕ
  pub of_cells : AreOfCells passes max_runs places members records
  pub appended : ℕ
  pub differs : records + before ≡ appended → ⊥

-- why a table whose passes are all there tells no totals
abbrev pub IsOutOfStep : List PassView → ℕ → List ℕ → ℕ → Type 0
IsOutOfStep passes max_runs opened before = HasOtherCell passes max_runs opened ⊎ HasOtherRecords passes max_runs (length opened) before

-- where two of the passes know a place's name, it is the same
abbrev pub AgreeAt : List PassView → ℕ → Type 0
AgreeAt passes place = (i j : ℕ) (x y : List ℕ) → name_at_place (pass_at passes i).notes.known place ≡ Some x → name_at_place (pass_at passes j).notes.known place ≡ Some y → x ≡ y

-- no key has two places, whichever of the passes know them
abbrev pub HaveOnePlace : List PassView → Type 0
HaveOnePlace passes = (i j p q : ℕ) (key : List ℕ) → i < length passes → j < length passes → IsPlace (pass_at passes i).notes.known key p → IsPlace (pass_at passes j).notes.known key q → p ≡ q
