-- What is known on the way while a table is closed.
use Rattle.std.specs.Prelude.{◌≡◌, ℕ, ◌+◌, ◌*◌, ◌^◌, ◌≤◌, ◌<◌, min, List, length, take}
use Rattle.set_table.specs.TableAndPassViews.{PassView}
use Rattle.std.specs.FinMap as fin
use Rattle.set_table.specs.CellViewAndRuns.{CellView}
use Rattle.table_lifetime.specs.ClosingAudit.{Agrees, pass_at, share_at, added_at, removed_at, members_at, sum_below, sum_of_numbers}
use Rattle.table_lifetime.specs.declared.closing_audit.totals.Totals.{Totals}

-- the first n of the passes stand in the order of their numbers
abbrev pub InOrder : List PassView → ℕ → Type 0
InOrder passes n = (number : ℕ) → number < n → (pass_at passes number).number ≡ number

-- each pass has shares of each place, and stands where their number says
abbrev pub HaveShares : List PassView → ℕ → Type 0
HaveShares passes places = (i place : ℕ) → i < length passes → place < places → (place < length (pass_at passes i).shares) × ((share_at (pass_at passes i) place).pass ≡ i)

-- a place that had so many members at opening was added to the totals
pub record AddsPlace (passes : List PassView) (place opened : ℕ) (s t : Totals) : Type 0 where
  pub opened_is : t.opened ≡ s.opened + opened
  pub added : t.added ≡ s.added + added_at passes place
  pub removed : t.removed ≡ s.removed + removed_at passes place
  pub size : ℕ
  pub whole : size + removed_at passes place ≡ opened + added_at passes place
  pub members : t.members ≡ s.members + size
  pub sets : t.sets ≡ s.sets + min size 1

-- members and records that a place's cell tells were added to the totals
pub record AddsCell (passes : List PassView) (max_runs place : ℕ) (cell : CellView) (s t : Totals) : Type 0 where
  pub agrees : Agrees passes max_runs place cell
  pub members : t.members ≡ s.members + fin.len cell.sorted_set.members
  pub records : t.records ≡ s.records + cell.appended

-- the totals of the first n places
pub record AddsUpTo (passes : List PassView) (opened : List ℕ) (n : ℕ) (t : Totals) : Type 0 where
  pub opened_is : t.opened ≡ sum_of_numbers (take n opened)
  pub added : t.added ≡ sum_below n (λ place. added_at passes place)
  pub removed : t.removed ≡ sum_below n (λ place. removed_at passes place)
  pub members : t.members ≡ sum_below n (λ place. members_at passes opened place)
  pub sets : t.sets ≡ sum_below n (λ place. min (members_at passes opened place) 1)
  pub balance : t.members + t.removed ≡ t.opened + t.added

-- n places have no more than this
pub record IsBounded (n : ℕ) (t : Totals) : Type 0 where
  pub sets : t.sets ≤ n
  pub members : t.members ≤ n * 2 ^ 64
  pub opened : t.opened ≤ n * 2 ^ 64
  pub added : t.added ≤ n * 2 ^ 64
  pub removed : t.removed ≤ n * 2 ^ 64
  pub records : t.records ≤ n * 2 ^ 64
