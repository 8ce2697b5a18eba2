use Rattle.table_lifetime.specs.ClosingSteps.{AddsUpTo, IsBounded}
use Rattle.table_lifetime.specs.ClosingAudit.{AreOfCells}
use Rattle.table_lifetime.proofs.closing_audit.add_places.Given as goal

abbrev pub invariant-loop-place : goal.invariant-loop-place
invariant-loop-place g l = record {
  sums : AddsUpTo l.passes.items l.opened l.place l.totals;
  bound : IsBounded l.place l.totals;
  cells : AreOfCells l.passes.items l.max_runs l.place l.totals.members l.totals.records;
}
