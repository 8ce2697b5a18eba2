use Rattle.std.proofs.Common.{◌∙◌, List, length, ap, subst, arith}
use Rattle.std.proofs.lemmas.List.{take_all}
use Rattle.std.specs.List.{AllByRecursion}
use Rattle.sorted_sets.specs.MovedMembers.{prepared_effect}
use Rattle.log_records.specs.EffectRecords.{EffectEntry, HasScore, effect_words}
use Rattle.log_records.proofs.EntryTexts.{count_more, few_front, scored_more}
use Rattle.log_records.proofs.record.measure.Goals as goal

pub overflow_add-count : goal.overflow_add-count
overflow_add-count g c = omega (arith, c.loop-index.invariant.count, c.words_for-count.ensures.few, few_front (prepared_effect c.args.set.now) c.loop-index.index, c.requires)

pub loop-index-preserved : goal.loop-index-preserved
loop-index-preserved g c =
    let es = prepared_effect c.args.set.now in
    let i = c.loop-index.index in
    let name = c.effect_at-score.result.0.now in
    let score = c.effect_at-score.result.1 in
    record {
      count = omega (arith, c.loop-index.invariant.count, c.words_for-count.ensures.count name, count_more es i name score c.effect_at-score.ensures);
      scores = scored_more es i (name, score) c.effect_at-score.ensures c.loop-index.invariant.scores c.words_for-count.ensures.score;
    }

pub returns-clause-count : goal.returns-clause-count
returns-clause-count g c =
    let es = prepared_effect c.args.set.now in
    c.loop-index.invariant.count ∙ ap (λ (l : List EffectEntry). length (effect_words l)) (take_all c.loop-index.index es (omega (arith, c.loop-index-test.false, c.effect_len-index-end.ensures)))

pub returns-clause-scores : goal.returns-clause-scores
returns-clause-scores g c =
    let es = prepared_effect c.args.set.now in
    subst (AllByRecursion HasScore) (take_all c.loop-index.index es (omega (arith, c.loop-index-test.false, c.effect_len-index-end.ensures))) c.loop-index.invariant.scores
