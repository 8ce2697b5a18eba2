use Rattle.std.proofs.Common.{take, arith}
use Rattle.log_records.proofs.ReloadFaults.{of_bytes, not_late}
use Rattle.std.proofs.lemmas.Grind.{common_steps}
use Rattle.append_log.proofs.loading.Reloader.read_on.Goals as goal

pub returns-in_err-take_piece-in-Ok-clause-failures : goal.returns-in_err-take_piece-in-Ok-clause-failures
returns-in_err-take_piece-in-Ok-clause-failures g c =
    of_bytes c.in_err-take_piece-in-Ok.field-0.0 c.from_residual.result _ _ c.in_err-take_piece-in-Ok.ensures.cause c.from_residual.ensures.1 c.in-Ok.ensures.failures

pub returns-in_ok-take_piece-in-Ok-clause-round : goal.returns-in_ok-take_piece-in-Ok-clause-round
returns-in_ok-take_piece-in-Ok-clause-round g c = record {
  piece = take c.in-Ok.n c.read.new.buffer;
  read_is = c.in-Ok.ensures.told;
  rounded = λ start bytes h less. c.in_ok-take_piece-in-Ok.ensures.drained start bytes h;
}

pub returns-in_err-take_piece-in-Ok-clause-not_late : goal.returns-in_err-take_piece-in-Ok-clause-not_late
returns-in_err-take_piece-in-Ok-clause-not_late g c =
    not_late c.in_err-take_piece-in-Ok.field-0.0 c.from_residual.result c.in_err-take_piece-in-Ok.ensures.cause c.from_residual.ensures.1

pub returns-in-Ok-eq0-clause-round : goal.returns-in-Ok-eq0-clause-round
returns-in-Ok-eq0-clause-round g c = grind (arith, common_steps)
