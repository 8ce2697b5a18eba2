use Rattle.column_tests.proofs.Known.{HoldsAll-just, Holds-kept}
use Rattle.column_tests.proofs.merges.take.Goals as goal

pub take_known-requires-clause-known : goal.take_known-requires-clause-known
take_known-requires-clause-known c = HoldsAll-just c.args.column.now c.args.held.now.items c.requires.holds

pub returns : goal.returns
returns c = Holds-kept c.take_known.result c.args.column.now c.take_known.new.column c.args.held.now.items c.take_known.new.known.items c.requires.holds c.take_known.ensures.others
