use Rattle.log_records.proofs.LogInvariant.{is_log_broken_off}
use Rattle.append_log.proofs.log.Log.break_off.Goals as goal

pub invariant_of-self : goal.invariant_of-self
invariant_of-self g c = (is_log_broken_off _ c.self.invariant.0, c.self.invariant.1)
