use Rattle.std.proofs.Common.{◌≡◌, ◌++◌, take}
use Rattle.std.specs.List.{flat_map}
use Rattle.resp_wire.specs.RequestEncoding.{argument}
use Rattle.sorted_sets.specs.MovedMembers.{prepared_effect}
use Rattle.log_records.specs.EffectRecords.{effect_words}
use Rattle.log_records.proofs.record.write_entries.Given as goal

abbrev pub invariant-loop-index : goal.invariant-loop-index
invariant-loop-index g l = l.text.items ≡ l.initial.text.items ++ flat_map argument (effect_words (take l.index (prepared_effect l.set)))
