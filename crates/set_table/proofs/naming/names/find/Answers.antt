use Rattle.place_names.proofs.NameLemmas.{grows_on}
use Rattle.place_names.proofs.PlaceLemmas.{place_grows}
use Rattle.set_table.proofs.naming.names.find.Goals as goal

pub returns-in_err-place-clause-none : goal.returns-in_err-place-clause-none
returns-in_err-place-clause-none c =
    rw c.from_residual.ensures (λ p place. c.in_err-place.ensures.none p (place_grows c.args.known.now.known c.recall.new.known.known c.args.key.now p c.recall.ensures.grows place))

pub remember-requires-clause-met : goal.remember-requires-clause-met
remember-requires-clause-met c = (c.args.key.now, c.in_ok-place.ensures.found)

pub returns-clause-grows : goal.returns-clause-grows
returns-clause-grows c = rw c.remember.ensures (grows_on c.args.known.now.known c.recall.new.known.known c.find_by_walk.new.known.known c.recall.ensures.grows c.find_by_walk.ensures.grows)
