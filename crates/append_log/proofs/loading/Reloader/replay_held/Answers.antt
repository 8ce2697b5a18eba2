use Rattle.resp_wire.proofs.CallerLemmas.{err_is}
use Rattle.append_log.proofs.loading.Reloader.replay_held.Goals as goal

pub returns-in_err-replay_next-clause-drained : goal.returns-in_err-replay_next-clause-drained
returns-in_err-replay_next-clause-drained g c = λ start bytes h.
    let ended = c.in_err-replay_next.ensures.stepped start bytes (c.records.invariant.holds start bytes h) in
    rw (err_is _ _ c.from_residual.ensures.1) ended

pub returns-clause-drained : goal.returns-clause-drained
returns-clause-drained g c = λ start bytes h.
    (rw c.if-branch.false at c.in_ok-replay_next.ensures.stepped) start bytes (c.records.invariant.holds start bytes h)
