use Rattle.std.proofs.Common.{◌≡◌, ℕ, ◌<◌}
use Rattle.table_lifetime.specs.ClosingAudit.{AgreeAt}
use Rattle.table_lifetime.proofs.closing_audit.passes_agree_on_names.compare_names.Given as goal

abbrev pub invariant-loop-place : goal.invariant-loop-place
invariant-loop-place g l = record {
  same : l.passes.items ≡ l.fn.passes.items;
  agree : (p : ℕ) → p < l.place → AgreeAt l.fn.passes.items p;
}
