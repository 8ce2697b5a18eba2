-- What a server's table tells when it is closed, and why there is none.
use Rattle.std.proofs.Common.{◌≡◌, ℕ, ◌<◌, ◌≤◌, List, length, refl, sym, ◌∙◌, subst}
use Rattle.std.specs.Prelude.{All}
use Rattle.std.specs.FinMap as fin
use Rattle.std.proofs.lemmas.List.Elements.{length_all_zip, AllZip-get_or, All-from_get_or}
use Rattle.zset_core.specs.SetsByKey.{World}
use Rattle.hand_over.specs.declared.outcome.HandOverFault.{HandOverFault}
use Rattle.hand_over.specs.declared.outcome.HandOverFault.TheVariants as hands
use Rattle.table_lifetime.specs.Opening.{AreNewPasses, IsTableOpenFault, no_pass, pass_at}
use Rattle.table_lifetime.specs.ClosingAudit.{AreNumbered}
use Rattle.set_table.specs.TableAndPassViews.{TableView, PassView, IsPassOf}
use Rattle.table_lifetime.specs.declared.opening.TableOpenFault.{TableOpenFault}
use Rattle.table_lifetime.specs.declared.opening.TableOpenFault.TheVariants as opens
use Rattle.table_lifetime.specs.declared.closing_audit.CloseFault.{CloseFault}
use Rattle.table_lifetime.specs.declared.closing_audit.CloseFault.TheVariants.{MissingPass, OutOfStep}
use Rattle.table_worker.specs.WorkerRequests.{Keeps, worker_on, AllKeep}
use Rattle.tcp_server.specs.ServerRun.{IsStartFault, table_open_line, hand_over_line}

pub own_all : (table : TableView) (passes : List PassView) → ((i : ℕ) → i < length passes → IsPassOf table (pass_at passes i)) → All (IsPassOf table) passes
own_all table passes each = All-from_get_or (IsPassOf table) passes no_pass each

-- passes that kept their numbers are numbered as the new ones were
pub are_numbered : (table : TableView) (world : World) (first passes : List PassView) → AreNewPasses table world first → AllKeep table first passes → AreNumbered passes table.passes
are_numbered table world first passes new keep =
    let as_many : length first ≡ length passes = length_all_zip _ first passes keep in
    record {
      as_many = sym as_many ∙ new.count;
      each = λ number within.
          let at : number < length first = subst (λ (n : ℕ). number < n) (sym new.count) within in
          let kept : Keeps (worker_on table (pass_at first number)) (worker_on table (pass_at passes number)) = AllZip-get_or _ first passes number no_pass no_pass keep at in
          (number, subst (λ (n : ℕ). number < n) as_many at, kept.number ∙ new.number number at);
    }

pub out_of_step : (fault : CloseFault) → (fault ≡ MissingPass → ⊥) → fault ≡ OutOfStep
out_of_step MissingPass none = absurd (none refl)
out_of_step OutOfStep none = refl

pub not_opened : (fault : TableOpenFault) (world : World) (places : ℕ) → IsTableOpenFault fault world places → IsStartFault (table_open_line fault) world places
not_opened opens.NoMemory world places fits = fits
not_opened opens.TooManyKeys world places many = many

pub not_handed_over : (fault : HandOverFault) (world : World) (places : ℕ) → fin.len world ≤ places → IsStartFault (hand_over_line fault) world places
not_handed_over hands.NoMemory world places fits = fits
not_handed_over hands.Spawn world places fits = fits
