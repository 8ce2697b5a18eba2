use Rattle.std.proofs.Common.{refl}
use Rattle.held_replies.proofs.SyncedLemmas.{synced}
use Rattle.held_replies.proofs.held_replies.settle.Goals as goal

pub returns-clause-synced : goal.returns-clause-synced
returns-clause-synced g c =
    let e = c.sync.ensures in
    synced _ _ e.sets.0 e.sets.1 c.is_settled.ensures.within e.replays _ e.ok e.err
