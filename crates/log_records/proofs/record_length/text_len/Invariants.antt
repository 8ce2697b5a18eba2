use Rattle.std.proofs.Common.{◌≡◌, ◌+◌, ◌*◌, ◌≤◌, length, take}
use Rattle.std.specs.List.{flat_map}
use Rattle.resp_wire.specs.RequestEncoding.{line, argument}
use Rattle.log_records.proofs.record_length.text_len.Given as goal

abbrev pub invariant-loop-bytes : goal.invariant-loop-bytes
invariant-loop-bytes g l = record {
  counted : l.len ≡ 1 + length (line (length l.words)) + length (flat_map argument (take l.bytes-index l.words));
  short : l.len ≤ 43 + 70000 * l.bytes-index;
}
