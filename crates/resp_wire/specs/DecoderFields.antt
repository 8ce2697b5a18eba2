-- A decoder's fields, and what they stand for.
use Rattle.std.specs.Prelude.{◌≡◌, ◌+◌, ◌-◌, ◌<◌, ◌≤◌, ◌^◌, ◌++◌, length, drop, All}
use Rattle.resp_wire.specs.declared.decoder.Decoder.TheInside.{Inside}
use Rattle.resp_messages.specs.RequestEncoding.{most_arguments, IsArgument}
use Rattle.resp_wire.specs.DecoderView.{DecoderView, begun}

abbrev pub wire_of : {A : Type 0} → Inside A → DecoderView
wire_of d = record { held = begun d.count d.arguments.items ++ drop d.start d.bytes.items; taken = d.taken; fault = d.fault }

pub record IsSound {A : Type 0} (d : Inside A) : Type 0 where
  pub start : d.start ≤ length d.bytes.items
  pub count : d.count ≤ most_arguments
  pub few : length d.arguments.items ≤ d.count
  pub each : All IsArgument d.arguments.items
  pub begun_is : d.begun ≡ length (begun d.count d.arguments.items)
  pub room : d.taken + (d.begun + (length d.bytes.items - d.start)) < 2 ^ 64
