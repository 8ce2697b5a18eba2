use Rattle.sorted_sets.proofs.Planning.{Holds-shown, column_shown}
use Rattle.sorted_sets.proofs.set.ZSet.column.Goals as goal

pub returns-clause-column : goal.returns-clause-column
returns-clause-column g c = column_shown c.self.inside.members.entries c.self.inside.column c.self.inside.prepared c.args.self.now c.self.view_is

pub returns-clause-content : goal.returns-clause-content
returns-clause-content g c = Holds-shown c.self.inside.members.entries c.self.inside.column c.self.inside.prepared c.args.self.now c.self.view_is c.self.invariant
