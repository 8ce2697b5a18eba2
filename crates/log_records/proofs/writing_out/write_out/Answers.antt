use Rattle.std.proofs.Common.{◌∙◌, arith, length-drop}
use Rattle.std.proofs.lemmas.List.{take_rest}
use Rattle.resp_wire.proofs.CallerLemmas.{write_more}
use Rattle.log_records.proofs.writing_out.write_out.Goals as goal

pub loop-taken-preserved : goal.loop-taken-preserved
loop-taken-preserved g c = record {
  at_most = omega (arith, c.in-Ok.ensures.count, length-drop c.loop-taken.taken c.args.bytes.now);
  told = write_more _ _ _ c.args.bytes.now _ _ c.loop-taken.invariant.told (simp take_rest at c.in-Ok.ensures.told);
  synced = c.in-Ok.ensures.synced ∙ c.loop-taken.invariant.synced;
  good = c.in-Ok.ensures.failures ∙ c.loop-taken.invariant.good;
}
