use Rattle.std.proofs.Common.{rules, [], ◌∷◌}
use Rattle.std.specs.Prelude.{codes}
use Rattle.log_records.proofs.RecordPieces.{words_more}
use Rattle.log_records.proofs.dumping.words_of.Goals as goal

pub loop-row-preserved : goal.loop-row-preserved
loop-row-preserved g c =
    words_more (codes "ZADD" ∷ c.args.key.now ∷ []) c.loop-row.words.items _ c.args.pairs.now c.loop-row.row-index c.row-item.result c.row-item.result c.loop-row-test.true (search rules) c.loop-row.invariant c.in_ok-push_pair.ensures
