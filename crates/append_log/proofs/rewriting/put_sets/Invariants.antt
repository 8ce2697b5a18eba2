use Rattle.std.proofs.Common.{◌≡◌, ℕ, ◌-◌, ◌^◌, List, ◌++◌, length, min, slice_get}
use Rattle.std.specs.Option.{option_copied}
use Rattle.std.specs.FinMap as fin
use Rattle.std.specs.Io.KnownBytes.{append_known}
use Rattle.log_records.specs.Dump.{records_at}
use Rattle.log_records.specs.Records.{text_of_records}
use Rattle.log_records.proofs.KeyWalk.{left_from}
use Rattle.append_log.proofs.rewriting.put_sets.Given as goal

abbrev pub invariant-keys : goal.invariant-keys
invariant-keys g l = record {
  done : List (List ℕ);
  rest : List (List ℕ);
  cut : fin.keys l.owner.world ≡ done ++ rest;
  next_is : option_copied l.next ≡ slice_get rest 0;
  count_is : l.count ≡ min (length (records_at l.owner.world done)) (2 ^ 64 - 1);
  told : g.S.LogSink.told l.sink ≡ append_known (g.S.LogSink.told l.fn.sink) (text_of_records (records_at l.owner.world done));
  good : g.S.LogSink.failures l.sink ≡ g.S.LogSink.failures l.fn.sink;
}

abbrev pub decreases-keys : goal.decreases-keys
decreases-keys g l = length (left_from (fin.keys l.owner.world) (option_copied l.next))
