use Rattle.std.proofs.Common.{◌≡◌, ◌++◌, ◌≤◌, ◌-◌, length, take, All}
use Rattle.std.specs.List.{flat_map}
use Rattle.resp_messages.specs.RequestEncoding.{argument, IsArgument}
use Rattle.resp_wire.proofs.decoder_steps.fill.Given as goal

abbrev pub invariant-arguments : goal.invariant-arguments
invariant-arguments g l = record {
  text : flat_map argument l.arguments.items ++ l.rest ≡ flat_map argument l.fn.arguments.items ++ l.bytes;
  each : All IsArgument l.fn.arguments.items → All IsArgument l.arguments.items;
  few : length l.arguments.items ≤ l.count;
  kept : take (length l.fn.arguments.items) l.arguments.items ≡ l.fn.arguments.items;
  longer : length l.fn.arguments.items ≤ length l.arguments.items;
  shorter : length l.rest ≤ length l.bytes;
}

abbrev pub decreases-arguments : goal.decreases-arguments
decreases-arguments g l = l.count - length l.arguments.items
