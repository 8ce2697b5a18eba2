use Rattle.std.proofs.Common.{ℕ, ◌<◌}
use Rattle.set_table.specs.CellViewAndRuns.{InStep}
use Rattle.table_lifetime.specs.ClosingAudit.{pass_at, share_at}
use Rattle.table_lifetime.proofs.closing_audit.all_in_step.Given as goal

abbrev pub invariant-loop-i : goal.invariant-loop-i
invariant-loop-i g l = (j : ℕ) → j < l.i → InStep l.cell (share_at (pass_at l.passes.items j) l.place)
