use Rattle.resp_wire.proofs.Items.{item_again, item_takes}
use Rattle.resp_wire.proofs.laws.encoding_round_trip.Goals as goal

pub returns : goal.returns
returns c = record { again = item_again; takes = item_takes }
