-- What a worker finds in the channel.
use Rattle.std.specs.Prelude.{◌≡◌}
use Rattle.connection_channel.specs.declared.channel_protocol.Found.{Found}
use Rattle.connection_channel.specs.declared.channel_protocol.Found.TheVariants.{Connection, Stop, Nothing}
use Rattle.connection_channel.specs.declared.channel_protocol.ChannelPassView.{ChannelPassView}
use Rattle.connection_channel.specs.ChannelInvariant.{AllBelow, with_taken}

-- a connection is noted by its number, which is above all that the pass took before; else the pass stays as it was
abbrev pub IsFound : {C : Type 0} → Found C → ChannelPassView → ChannelPassView → Type 0
IsFound (Connection number connection) old new = (new ≡ with_taken old number) × AllBelow number old.taken
IsFound Stop old new = new ≡ old
IsFound Nothing old new = new ≡ old
