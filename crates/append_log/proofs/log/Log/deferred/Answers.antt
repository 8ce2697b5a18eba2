use Rattle.std.proofs.Common.{ap, ◌∙◌}
use Rattle.log_records.specs.LogViewAndSteps.{LogView}
use Rattle.log_records.proofs.LogInvariant.{is_log_new}
use Rattle.append_log.proofs.log.Log.deferred.Goals as goal

pub invariant_of-log : goal.invariant_of-log
invariant_of-log g c =
    let is = c.log.view_is ∙ c.new-log.ensures in
    let log = c.log.invariant.0 in
    (is_log_new _ (ap (λ (l : LogView). l.appended) is) (ap (λ (l : LogView). l.settled) is) (ap (λ (l : LogView). l.written) is) (ap (λ (l : LogView). l.broken) is) log.limited log.has_part, c.log.invariant.1)
