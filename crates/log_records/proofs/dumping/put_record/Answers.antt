use Rattle.std.proofs.Common.{◌∙◌, refl}
use Rattle.std.proofs.lemmas.Result.{err_from_is_err_and}
use Rattle.log_records.proofs.RecordPieces.{front_none}
use Rattle.log_records.proofs.dumping.put_record.Goals as goal

pub returns-in_err-text : goal.returns-in_err-text
returns-in_err-text g c =
    let p = err_from_is_err_and c.from_residual.result c.from_residual.ensures.1 in
    rw (p.1, p.2) (front_none _ _, refl)

pub returns : goal.returns
returns g c = rw (c.deref.ensures.value ∙ c.in_ok-text.ensures) at c.put_bytes.ensures
