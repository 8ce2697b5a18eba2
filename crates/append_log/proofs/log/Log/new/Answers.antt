use Rattle.std.proofs.Common.{refl, arith}
use Rattle.log_records.proofs.LogInvariant.{is_log_new}
use Rattle.append_log.proofs.log.Log.new.Goals as goal

pub invariant_of-result : goal.invariant_of-result
invariant_of-result g c = (is_log_new _ refl refl refl refl c.requires.limited (omega arith), c.open-book.ensures.total)
