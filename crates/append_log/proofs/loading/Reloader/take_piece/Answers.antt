use Rattle.resp_wire.proofs.CallerLemmas.{err_is}
use Rattle.log_records.proofs.HeldReplay.{no_room}
use Rattle.append_log.proofs.loading.Reloader.take_piece.Goals as goal

pub returns-in_err-feed-clause-drained : goal.returns-in_err-feed-clause-drained
returns-in_err-feed-clause-drained g c = λ start bytes h.
    rw (err_is _ _ c.from_residual.ensures.1) (no_room start bytes c.args.piece.now _ _ _ _ h)
