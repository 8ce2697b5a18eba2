use Rattle.std.proofs.Common.{arith}
use Rattle.std.proofs.lemmas.Int.{ints}
use Rattle.column_rows.proofs.Selection.{found-exact}
use Rattle.ripple_column.proofs.select.place_of_cut.Goals as goal

pub returns-in-At-clause-exact : goal.returns-in-At-clause-exact
returns-in-At-clause-exact g c place at =
    found-exact c.find.result _ c.in-At.v place c.args.pivots.now.list (omega (arith, ints)) c.requires c.find.ensures (let there = rw c.in-At.is at at in there)
