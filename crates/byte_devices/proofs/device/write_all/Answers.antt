use Rattle.std.proofs.Common.{◌∙◌, arith, length-drop}
use Rattle.std.proofs.lemmas.List.{take_rest}
use Rattle.byte_devices.proofs.CallerLemmas.{write_more}
use Rattle.byte_devices.proofs.device.write_all.Goals as goal

pub loop-taken-preserved : goal.loop-taken-preserved
loop-taken-preserved g c = record {
  at_most = omega (arith, c.in-Ok.ensures.count, length-drop c.loop-taken.taken c.args.piece.now);
  told = write_more _ _ _ c.args.piece.now _ _ c.loop-taken.invariant.told (simp take_rest at c.in-Ok.ensures.told);
  flushed = c.in-Ok.ensures.flushed ∙ c.loop-taken.invariant.flushed;
  good = c.in-Ok.ensures.failures ∙ c.loop-taken.invariant.good;
}
