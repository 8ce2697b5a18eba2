use Rattle.log_records.proofs.PrefixReload.{readable_told}
use Rattle.append_log.proofs.log.Log.into_sink.Goals as goal

pub returns-clause-prefixes : goal.returns-clause-prefixes
returns-clause-prefixes g c =
    rw (← c.self.view_is) (readable_told c.longest.ensures.whole c.longest.ensures.most c.faults.ensures.short _ c.self.invariant.0)
