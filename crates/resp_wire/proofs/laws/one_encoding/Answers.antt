use Rattle.resp_wire.proofs.LawProofs.{one_item}
use Rattle.resp_wire.proofs.laws.one_encoding.Goals as goal

pub returns : goal.returns
returns c = one_item
