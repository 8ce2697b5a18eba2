use Rattle.std.proofs.Common.{ℕ, arith, subst}
use Rattle.table_lifetime.specs.ClosingAudit.{AreOfCells, HasOtherCell}
use Rattle.table_lifetime.proofs.ClosingLemmas.{IfNone-any, adds_more, adds_up, cells_more}
use Rattle.table_lifetime.proofs.closing_audit.add_places.Goals as goal

pub add_place-requires-clause-own : goal.add_place-requires-clause-own
add_place-requires-clause-own g c = λ i place less within. c.requires.own i place less (omega (arith, within, c.loop-place-test.true, c.loop-place.auto.place-end))

pub loop-place-preserved : goal.loop-place-preserved
loop-place-preserved g c = record {
  sums = adds_more c.args.passes.now.items c.args.opened.now c.loop-place.place c.loop-place.totals c.in_ok-totals.totals (omega (arith, c.loop-place-test.true, c.loop-place.auto.place-end)) c.loop-place.invariant.sums c.in_ok-totals.ensures.sums;
  bound = c.in_ok-totals.ensures.bound;
  cells = cells_more c.args.passes.now.items c.args.max_runs c.loop-place.place _ c.loop-place.totals c.in_ok-totals.totals c.loop-place.invariant.cells c.in_ok-totals.ensures.cell;
}

pub returns-clause-sums : goal.returns-clause-sums
returns-clause-sums g c = adds_up c.args.passes.now.items c.args.opened.now c.loop-place.place c.loop-place.totals (omega (arith, c.loop-place-test.false, c.loop-place.auto.place-end)) c.loop-place.invariant.sums

pub returns-clause-cells : goal.returns-clause-cells
returns-clause-cells g c =
    subst (λ (n : ℕ). AreOfCells c.args.passes.now.items c.args.max_runs n c.loop-place.totals.members c.loop-place.totals.records) (omega (arith, c.loop-place-test.false, c.loop-place.auto.place-end)) c.loop-place.invariant.cells

pub returns-in_err-totals-clause-none : goal.returns-in_err-totals-clause-none
returns-in_err-totals-clause-none g c =
    IfNone-any c.from_residual.result (HasOtherCell c.args.passes.now.items c.args.max_runs c.args.opened.now) (record {
      place = c.loop-place.place;
      within = omega (arith, c.loop-place-test.true, c.loop-place.auto.place-end);
      cell = c.get_mut-cell.result.now;
      whole = c.add_place.ensures.whole;
      differs = c.in_err-totals.ensures.none;
    })
