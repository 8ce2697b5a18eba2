-- What an opened table has of the world that it was opened with.
use Rattle.std.specs.Prelude.{◌≡◌, ℕ, ◌≤◌, ◌<◌, List, [], length, map, None, IfSome}
use Rattle.std.specs.List.{All, sum_by}
use Rattle.std.specs.FinMap as fin
use Rattle.std.proofs.Math.ListN.{get_or}
use Rattle.zset_core.specs.SortedSet.{Members}
use Rattle.sorted_sets.specs.SetAndOwnerViews.{SetView}
use Rattle.zset_core.specs.SetsByKey.{World}
use Rattle.set_table.specs.CellViewAndRuns.{CellView, new_cell}
use Rattle.place_names.specs.Naming.{Naming, NotesView, IsPlace}
use Rattle.set_table.specs.TableAndPassViews.{TableView, PassView, IsPassOf, no_share}
use Rattle.set_table.specs.PassTallies.{ShareView, empty_tally}
use Rattle.table_lifetime.specs.declared.opening.TableOpenFault.{TableOpenFault}
use Rattle.table_lifetime.specs.declared.opening.TableOpenFault.TheVariants.{NoMemory, TooManyKeys}

-- a key with its members
abbrev pub KeyedMembers : Type 0
KeyedMembers = List ℕ × Members

abbrev pub keyed_at : List KeyedMembers → ℕ → KeyedMembers
keyed_at entries i = get_or entries i ([], fin.empty)

-- how many members the sets of keys have together
abbrev pub members_of : List KeyedMembers → ℕ
members_of entries = sum_by (λ e. fin.len e.1) entries

abbrev pub sum_of_numbers : List ℕ → ℕ
sum_of_numbers numbers = sum_by (λ n. n) numbers

-- the key's place is known, and was opened with as many members as the key's set has
pub record HasItsPlace (known : Naming) (opened : List ℕ) (key : List ℕ) (members : Members) : Type 0 where
  pub place : ℕ
  pub is : IsPlace known key place
  pub size : get_or opened place 0 ≡ fin.len members

-- each set of the world has its place
abbrev pub AllHavePlaces : World → Naming → List ℕ → Type 0
AllHavePlaces world known opened = (key : List ℕ) → IfSome (fin.get world key) (HasItsPlace known opened key)

-- a table of so many places and passes, that was opened with the members of a world
pub record IsOpened (world : World) (places passes max_runs records : ℕ) (table : TableView) : Type 0 where
  pub places_are : length table.opened ≡ places
  pub members : sum_of_numbers table.opened ≡ members_of (fin.entries world)
  pub passes_are : table.passes ≡ passes
  pub max_runs_is : table.max_runs ≡ max_runs
  pub records_are : table.records_before ≡ records

-- shares of each place, which tell of no run
pub record AreNewShares (opened : List ℕ) (number : ℕ) (shares : List ShareView) : Type 0 where
  pub places : length shares ≡ length opened
  pub each : (place : ℕ) → place < length opened → get_or shares place no_share ≡ record { place = place; pass = number; opened = get_or opened place 0; tally = empty_tally }

abbrev pub no_pass : PassView
no_pass = record { number = 0; notes = record { names = []; known = [] }; shares = []; kept = 0 }

abbrev pub pass_at : List PassView → ℕ → PassView
pass_at passes i = get_or passes i no_pass

-- a pass with this number that knows these names, and was answered nothing yet
pub record IsNewPass (opened : List ℕ) (notes : NotesView) (number : ℕ) (pass : PassView) : Type 0 where
  pub number_is : pass.number ≡ number
  pub notes_are : pass.notes ≡ notes
  pub shares : AreNewShares opened number pass.shares

-- a table's passes are numbered from 0 on, know the places of the world's sets, and were answered nothing yet
pub record AreNewPasses (table : TableView) (world : World) (passes : List PassView) : Type 0 where
  pub count : length passes ≡ table.passes
  pub number : (i : ℕ) → i < length passes → (pass_at passes i).number ≡ i
  pub own : (i : ℕ) → i < length passes → IsPassOf table (pass_at passes i)
  pub shares : (i : ℕ) → i < length passes → AreNewShares table.opened i (pass_at passes i).shares
  pub know : (i : ℕ) → i < length passes → AllHavePlaces world (pass_at passes i).notes.known table.opened

-- why a table is not opened
abbrev pub IsTableOpenFault : TableOpenFault → World → ℕ → Type 0
IsTableOpenFault NoMemory world places = fin.len world ≤ places
IsTableOpenFault TooManyKeys world places = places < fin.len world

-- the numbers of members of sets
abbrev pub cards_of : List SetView → List ℕ
cards_of sets = map (λ s. fin.len s.members) sets

-- no set is prepared
abbrev pub AreIdleSets : List SetView → Type 0
AreIdleSets sets = All (λ s. s.next ≡ None) sets

-- so many empty sets
pub record AreEmptySets (count : ℕ) (sets : List SetView) : Type 0 where
  pub count_is : length sets ≡ count
  pub idle : AreIdleSets sets
  pub each : All (λ s. s.members ≡ fin.empty) sets

-- for each set a new cell, at the place where the set stands
pub record AreNewCells (max_runs passes : ℕ) (sets : List SetView) (cells : List CellView) : Type 0 where
  pub count : length cells ≡ length sets
  pub each : (place : ℕ) (set : SetView) (cell : CellView) → place < length sets → get_or cells place cell ≡ new_cell place (get_or sets place set) max_runs passes 0
