use Rattle.std.proofs.Common.{◌≡◌, ◌++◌, ◌∷◌, ◌≤◌, length, take}
use Rattle.std.specs.List.{flat_map}
use Rattle.resp_messages.specs.RequestEncoding.{line, argument}
use Rattle.resp_messages.proofs.encoding.put_array.Given as goal

abbrev pub invariant-loop-bytes : goal.invariant-loop-bytes
invariant-loop-bytes g l = record {
  text : l.out.items ≡ l.fn.out.items ++ 42 ∷ (line (length l.list) ++ flat_map argument (take l.bytes-index l.list));
  kept : take (length l.fn.out.items) l.out.items ≡ l.fn.out.items;
  longer : length l.fn.out.items ≤ length l.out.items;
}
