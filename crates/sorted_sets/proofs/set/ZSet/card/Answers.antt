use Rattle.std.proofs.Common.{◌∙◌, arith}
use Rattle.sorted_sets.proofs.Places.{len_kept, kept_within}
use Rattle.sorted_sets.proofs.set.ZSet.card.Goals as goal

pub returns-clause-card : goal.returns-clause-card
returns-clause-card g c = c.kept_len.ensures.kept ∙ len_kept c.self.inside.members.entries c.self.inside.column c.self.inside.prepared c.args.self.now c.self.view_is c.self.invariant c.kept_len.ensures.unique

pub returns-clause-few : goal.returns-clause-few
returns-clause-few g c = omega (arith, c.kept_len.ensures.kept, c.kept_len.ensures.small, kept_within c.self.inside.members.entries c.self.inside.prepared c.self.inside.column c.self.invariant)
