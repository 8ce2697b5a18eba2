use Rattle.std.proofs.Common.{◌≡◌, ℕ, ◌<◌, length}
use Rattle.table_lifetime.specs.Opening.{IsNewPass, pass_at}
use Rattle.table_lifetime.proofs.opening.passes.new_passes.Given as goal

abbrev pub invariant-loop-number : goal.invariant-loop-number
invariant-loop-number l = record {
  count : length l.passes.items ≡ l.number;
  same : l.knowledge ≡ l.fn.knowledge;
  each : (i : ℕ) → i < l.number → IsNewPass l.opened l.fn.knowledge i (pass_at l.passes.items i);
}
