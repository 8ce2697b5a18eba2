use Rattle.std.proofs.Common.{refl, sym, subst}
use Rattle.log_records.specs.LoggedOwnerViewAndRuns.{LoggedView, Replays}
use Rattle.log_records.proofs.LoggedOwnerLemmas.{Replays-stay}
use Rattle.append_log.proofs.logged.LoggedOwner.sync.Goals as goal

pub returns-clause-replays : goal.returns-clause-replays
returns-clause-replays g c = λ start old.
    let P : LoggedView → Type 0 = Replays start in
    Replays-stay start _ _ (λ q. refl) c.sync.ensures.records (subst P (sym c.self.view_is) old)
