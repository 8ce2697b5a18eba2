-- How a server ends: what became of its sets and its connections, and what it prints.
use Rattle.std.specs.Prelude.{◌≡◌, ℕ, ◌+◌, ◌<◌, ◌≤◌, ◌⊎◌, ◌↔◌, Bool, true, false, IsTrue, List, [], ◌∷◌, ◌++◌, All, codes, decimal, Option, None, Some, Result, Ok, Err}
use Rattle.std.specs.FinMap as fin
use Rattle.zset_core.specs.SetsByKey.{World}
use Rattle.table_lifetime.specs.Opening.{IsOpened, AreNewPasses}
use Rattle.table_lifetime.specs.ClosingAudit.{AddsUp, HaveOnePlace}
use Rattle.set_table.specs.declared.limits.TheConstants.{MAX_RUNS}
use Rattle.set_table.specs.TableAndPassViews.{TableView, PassView, IsPassOf}
use Rattle.connection_channel.specs.declared.arrivals.ArrivalKind.{ArrivalKind}
use Rattle.connection_channel.specs.declared.arrivals.ArrivalKind.TheVariants as arrived
use Rattle.hand_over.specs.declared.outcome.HandOverFault.{HandOverFault}
use Rattle.hand_over.specs.declared.outcome.HandOverFault.TheVariants as hands
use Rattle.table_lifetime.specs.declared.opening.TableOpenFault.{TableOpenFault}
use Rattle.table_lifetime.specs.declared.opening.TableOpenFault.TheVariants as opens
use Rattle.table_lifetime.specs.declared.closing_audit.totals.Totals.{Totals}
use Rattle.table_lifetime.specs.declared.closing_audit.CloseFault.{CloseFault}
use Rattle.table_lifetime.specs.declared.closing_audit.CloseFault.TheVariants.{OutOfStep}
use Rattle.exit_lines.specs.DeviceStates.{DrainState}
use Rattle.exit_lines.specs.ExitStatusAndLines.{status_of, finish_by, IsPrinted}
use Rattle.table_worker.specs.WorkerRequests.{AllKeep}
use Rattle.exit_lines.specs.declared.lines_and_statuses.Line.{Line}
use Rattle.exit_lines.specs.declared.lines_and_statuses.Line.TheVariants as lines
use Rattle.exit_lines.specs.declared.lines_and_statuses.Finish.{Finish}
use Rattle.tcp_server.specs.declared.server_sizes.Settings.{Settings}

-- what became of the arrivals and of a table's passes while connections were handed over
pub record IsAttended {A : Type 0} (came : A → ℕ) (last : A → Option ArrivalKind) (before after : A) (limit : ℕ) (table : TableView) (first passes : List PassView) (connections : ℕ) (fault : Bool) : Type 0 where
  pub own : All (IsPassOf table) passes
  pub keep : AllKeep table first passes
  pub count : came after ≡ came before + connections
  pub fault_is : IsTrue fault ↔ (last after ≡ Some arrived.Failure)
  pub stop : (connections ≡ limit) ⊎ (last after ≡ Some arrived.End) ⊎ (last after ≡ Some arrived.Failure)

-- the line that a server prints last
abbrev pub totals_text : ℕ → Totals → List ℕ
totals_text connections t =
    ((((((codes "connections " ++ decimal connections) ++ (codes " sets " ++ decimal t.sets)) ++ (codes " members " ++ decimal t.members))
    ++ (codes " added " ++ decimal t.added)) ++ (codes " removed " ++ decimal t.removed)) ++ (codes " records " ++ decimal t.records)) ++ 10 ∷ []

-- the end of a server whose totals line came to this; where accepting failed its line comes last
abbrev pub server_finish : Result Unit Line → Bool → Finish
server_finish (Ok unit) false = record { status = 0; lines = None ∷ None ∷ [] }
server_finish (Ok unit) true = finish_by lines.AcceptFault
server_finish (Err line) false = finish_by line
server_finish (Err line) true = record { status = status_of line; lines = Some line ∷ Some lines.AcceptFault ∷ [] }

-- what a closed table tells of its passes: their totals, or that these disagree with what stands in the table
abbrev pub HasTotals : Result Totals CloseFault → List ℕ → List PassView → Type 0
HasTotals (Ok totals) opened passes = AddsUp passes opened totals × HaveOnePlace passes
HasTotals (Err fault) opened passes = fault ≡ OutOfStep

-- what became of the totals line
abbrev pub IsTold : Result Totals CloseFault → ℕ → Result Unit Line → DrainState → DrainState → Type 0
IsTold (Ok totals) connections printed drain₀ drain₁ = IsPrinted (totals_text connections totals) printed drain₀ drain₁
IsTold (Err fault) connections printed drain₀ drain₁ = (printed ≡ Err lines.TotalsDisagree) × (drain₁ ≡ drain₀)

-- a server that took connections: of a table whose places have as many members as the sets that it was started with, and whose
-- workers answered requests
pub record HasServed {A : Type 0} (came : A → ℕ) (last : A → Option ArrivalKind) (before after : A) (world : World) (appended : ℕ) (settings : Settings) (drain₀ drain₁ : DrainState) (finish : Finish) : Type 0 where
  pub table : TableView
  pub opened : IsOpened world settings.places settings.workers MAX_RUNS appended table
  pub first : List PassView
  pub new : AreNewPasses table world first
  pub passes : List PassView
  pub connections : ℕ
  pub fault : Bool
  pub attended : IsAttended came last before after settings.connections table first passes connections fault
  pub closed : Result Totals CloseFault
  pub totals : HasTotals closed table.opened passes
  pub printed : Result Unit Line
  pub told : IsTold closed connections printed drain₀ drain₁
  pub finish_is : finish ≡ server_finish printed fault

-- the line that tells why there is no table
abbrev pub table_open_line : TableOpenFault → Line
table_open_line opens.NoMemory = lines.OutOfMemory
table_open_line opens.TooManyKeys = lines.MoreKeysThanPlaces

-- the line that tells why no connection was handed over
abbrev pub hand_over_line : HandOverFault → Line
hand_over_line hands.NoMemory = lines.OutOfMemory
hand_over_line hands.Spawn = lines.CannotStartWorkers

-- why a server took no connection
abbrev pub IsStartFault : Line → World → ℕ → Type 0
IsStartFault lines.MoreKeysThanPlaces world places = places < fin.len world
IsStartFault lines.OutOfMemory world places = fin.len world ≤ places
IsStartFault lines.CannotStartWorkers world places = fin.len world ≤ places
IsStartFault _ world places = ⊥

-- a server that took no connection and printed nothing
pub record HasNotServed {A : Type 0} (before after : A) (world : World) (places : ℕ) (drain₀ drain₁ : DrainState) (finish : Finish) : Type 0 where
  pub cause : Line
  pub cause_is : IsStartFault cause world places
  pub finish_is : finish ≡ finish_by cause
  pub arrivals : after ≡ before
  pub drain : drain₁ ≡ drain₀
