use Rattle.std.proofs.Common.{◌≡◌, ℕ, ◌<◌}
use Rattle.std.specs.List.Sorted.{IsPermutation}
use Rattle.table_lifetime.specs.ClosingAudit.{pass_at}
use Rattle.table_lifetime.proofs.closing_audit.sort_passes_by_number.sort_by_number.Given as goal

abbrev pub invariant-loop-number : goal.invariant-loop-number
invariant-loop-number g l = record {
  same : IsPermutation l.fn.passes.items l.passes.items;
  order : (j : ℕ) → j < l.number → (pass_at l.passes.items j).number ≡ j;
}
