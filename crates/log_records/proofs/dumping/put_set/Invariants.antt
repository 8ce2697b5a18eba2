use Rattle.std.proofs.Common.{◌≡◌, ◌+◌, ◌≤◌, List, ◌++◌, length, map}
use Rattle.std.specs.Io.KnownBytes.{append_known}
use Rattle.zset_core.specs.SortedSet.{Pair}
use Rattle.log_records.specs.Dump.{add_record, pieces}
use Rattle.log_records.specs.Records.{text_of_records}
use Rattle.log_records.proofs.dumping.put_set.Given as goal

abbrev pub invariant-pieces : goal.invariant-pieces
invariant-pieces g l = record {
  done : List (List Pair);
  cut : pieces l.rows ≡ done ++ pieces l.rest;
  count_is : l.count ≡ length done;
  few : l.count + length l.rest ≤ length l.rows;
  told : g.S.LogSink.told l.sink ≡ append_known (g.S.LogSink.told l.fn.sink) (text_of_records (map (add_record l.key) done));
  good : g.S.LogSink.failures l.sink ≡ g.S.LogSink.failures l.fn.sink;
}

abbrev pub decreases-pieces : goal.decreases-pieces
decreases-pieces g l = length l.rest
