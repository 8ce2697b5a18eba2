use Rattle.std.proofs.Common.{◌≡◌, ℕ, ◌<◌}
use Rattle.table_lifetime.specs.ClosingAudit.{pass_at}
use Rattle.table_lifetime.proofs.closing_audit.sort_passes_by_number.index_of.Given as goal

abbrev pub invariant-loop-i : goal.invariant-loop-i
invariant-loop-i g l = (j : ℕ) → j < l.i → (pass_at l.passes.items j).number ≡ l.number → ⊥
