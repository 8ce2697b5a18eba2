use Rattle.std.proofs.Common.{◌∙◌, ◌++◌, List, ap, arith}
use Rattle.std.proofs.lemmas.List.{take_all}
use Rattle.std.specs.List.{flat_map}
use Rattle.resp_wire.specs.RequestEncoding.{argument}
use Rattle.sorted_sets.specs.MovedMembers.{prepared_effect}
use Rattle.log_records.specs.EffectRecords.{EffectEntry, effect_words}
use Rattle.log_records.proofs.EntryTexts.{bytes_more}
use Rattle.log_records.proofs.record.write_entries.Goals as goal

pub loop-index-preserved : goal.loop-index-preserved
loop-index-preserved g c =
    bytes_more c.args.text.now.items c.loop-index.text.items c.write_entry.new.text.items (prepared_effect c.args.set.now) c.loop-index.index c.effect_at-score.result.0.now c.effect_at-score.result.1 c.effect_at-score.ensures c.loop-index.invariant c.in_ok-write_entry.ensures

pub returns : goal.returns
returns g c =
    c.loop-index.invariant ∙ ap (λ (l : List EffectEntry). c.args.text.now.items ++ flat_map argument (effect_words l)) (take_all c.loop-index.index (prepared_effect c.args.set.now) (omega (arith, c.loop-index-test.false, c.effect_len-index-end.ensures)))
