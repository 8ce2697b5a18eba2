use Rattle.std.proofs.Common.{ℕ, List, sym, subst, arith, rules, length, inl, inr}
use Rattle.table_lifetime.specs.ClosingAudit.{AddsUp, AreOfCells, HasOtherCell, IsOutOfStep}
use Rattle.table_lifetime.specs.ClosingSteps.{HaveShares}
use Rattle.table_lifetime.proofs.ClosingLemmas.{IfNone-any}
use Rattle.table_lifetime.proofs.closing_audit.add_up.Goals as goal

pub add_places-requires-clause-own : goal.add_places-requires-clause-own
add_places-requires-clause-own g c =
    subst (λ (xs : List ℕ). HaveShares c.args.passes.now.items (length xs)) (sym c.deref.ensures.value) c.requires.own

pub returns-clause-totals : goal.returns-clause-totals
returns-clause-totals g c =
    subst (λ (xs : List ℕ). AddsUp c.args.passes.now.items xs c.in_ok-totals.totals) c.deref.ensures.value c.in_ok-totals.ensures.sums

pub returns-clause-records : goal.returns-clause-records
returns-clause-records g c =
    omega (arith, c.are_appended.ensures.0 (search (rules, c.if-not-are_appended.false)), c.appended.ensures)

pub returns-clause-cells : goal.returns-clause-cells
returns-clause-cells g c =
    subst (λ (xs : List ℕ). AreOfCells c.args.passes.now.items c.args.parts.max_runs (length xs) c.in_ok-totals.totals.members c.in_ok-totals.totals.records) c.deref.ensures.value c.in_ok-totals.ensures.cells

pub returns-in_err-totals-clause-none : goal.returns-in_err-totals-clause-none
returns-in_err-totals-clause-none g c =
    IfNone-any c.from_residual.result (IsOutOfStep c.args.passes.now.items c.args.parts.max_runs c.args.parts.opened.items c.args.parts.records_before)
    (inl (subst (λ (xs : List ℕ). HasOtherCell c.args.passes.now.items c.args.parts.max_runs xs) c.deref.ensures.value c.in_err-totals.ensures.none))

pub returns-then-not-are_appended-clause-none : goal.returns-then-not-are_appended-clause-none
returns-then-not-are_appended-clause-none g c =
    inr (record {
      members = c.in_ok-totals.totals.members;
      records = c.in_ok-totals.totals.records;
      of_cells = subst (λ (xs : List ℕ). AreOfCells c.args.passes.now.items c.args.parts.max_runs (length xs) c.in_ok-totals.totals.members c.in_ok-totals.totals.records) c.deref.ensures.value c.in_ok-totals.ensures.cells;
      appended = c.appended.result;
      differs = λ e. absurd (let t = c.are_appended.ensures.1 (omega (arith, e)) in search (rules, t, c.if-not-are_appended.true));
    })
