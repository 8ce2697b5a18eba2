use Rattle.std.proofs.Common.{◌≡◌, length, take}
use Rattle.std.specs.List.{AllByRecursion}
use Rattle.sorted_sets.specs.MovedMembers.{prepared_effect}
use Rattle.log_records.specs.EffectRecords.{HasScore, effect_words}
use Rattle.log_records.proofs.record.measure.Given as goal

abbrev pub invariant-loop-index : goal.invariant-loop-index
invariant-loop-index g l = record {
  count : l.count ≡ length (effect_words (take l.index (prepared_effect l.set)));
  scores : AllByRecursion HasScore (take l.index (prepared_effect l.set));
}
