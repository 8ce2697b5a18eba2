use Rattle.std.proofs.lemmas.Result.{err_from_is_err_and}
use Rattle.resp_wire.specs.RequestEncoding.{request}
use Rattle.log_records.specs.Dump.{dump}
use Rattle.log_records.specs.Records.{text_of_records}
use Rattle.log_records.specs.Replay.{header}
use Rattle.log_records.proofs.DumpRequests.{header_text}
use Rattle.log_records.proofs.RecordPieces.{front_first, written_behind}
use Rattle.append_log.proofs.rewriting.rewrite.Goals as goal

pub returns-in_err-put_bytes-clause-written : goal.returns-in_err-put_bytes-clause-written
returns-in_err-put_bytes-clause-written g c =
    let p = err_from_is_err_and c.from_residual.result c.from_residual.ensures.1 in
    let failed = rw header_text at c.in_err-put_bytes.ensures in
    rw (p.1, p.2) (front_first _ _ (request header) (text_of_records (dump c.args.owner.now.world)) failed.0, failed.1)

pub returns-clause-written : goal.returns-clause-written
returns-clause-written g c =
    let first = rw header_text at c.in_ok-put_bytes.ensures in
    written_behind c.put_sets.result _ _ _ _ _ _ (request header) (text_of_records (dump c.args.owner.now.world)) first.0 first.1 c.put_sets.ensures.written
