use Rattle.std.proofs.Common.{◌≡◌, ◌+◌, ◌≤◌, length}
use Rattle.resp_wire.specs.Parser.{digits_at, number_at}
use Rattle.resp_wire.proofs.parser.number.Given as goal

abbrev pub invariant-loop-rest : goal.invariant-loop-rest
invariant-loop-rest l = record {
  small : l.n ≤ 9 + l.limit;
  same : digits_at l.limit l.over l.n l.rest ≡ number_at l.limit l.over l.bytes;
}

abbrev pub decreases-loop-rest : goal.decreases-loop-rest
decreases-loop-rest l = length l.rest
