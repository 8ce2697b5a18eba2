use Rattle.std.proofs.Common.{ap, ◌∙◌}
use Rattle.log_records.proofs.LoggedOwnerLemmas.{Replays-fresh}
use Rattle.append_log.proofs.logged.LoggedOwner.new.Goals as goal

pub returns-clause-replays : goal.returns-clause-replays
returns-clause-replays g c = λ none. Replays-fresh _ c.split-share.ensures.log (ap (λ l. l.appended) c.split-share.ensures.same ∙ none)
