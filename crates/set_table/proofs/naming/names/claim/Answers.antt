use Rattle.place_names.proofs.NameLemmas.{grows_on}
use Rattle.set_table.proofs.naming.names.claim.Goals as goal

pub remember-requires-clause-met : goal.remember-requires-clause-met
remember-requires-clause-met c = (c.args.key.now, c.in_ok-place.ensures.ok)

pub returns-clause-grows : goal.returns-clause-grows
returns-clause-grows c = rw c.remember.ensures (grows_on c.args.known.now.known c.recall.new.known.known c.claim_by_walk.new.known.known c.recall.ensures.grows c.claim_by_walk.ensures.grows)
