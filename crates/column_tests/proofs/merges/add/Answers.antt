use Rattle.column_tests.proofs.Known.{HoldsAll-just, Holds-kept}
use Rattle.column_tests.proofs.merges.add.Goals as goal

pub add_known-requires : goal.add_known-requires
add_known-requires c = HoldsAll-just c.args.column.now c.args.held.now.items c.requires

pub returns : goal.returns
returns c = Holds-kept c.add_known.result c.args.column.now c.add_known.new.column c.args.held.now.items c.add_known.new.known.items c.requires c.add_known.ensures.others
