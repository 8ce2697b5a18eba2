use Rattle.connection_turns.proofs.VisitLemmas.{takes}
use Rattle.connection_turns.proofs.connection_in_turns.Visit.read.Goals as goal

pub returns-after-self-clause-goes_on : goal.returns-after-self-clause-goes_on
returns-after-self-clause-goes_on g c start source₀ drain₀ stands =
    let e = c.take_piece.ensures in
    let told = rw c.in-Some.is at c.in-Ok.ensures.told in
    takes g.E.Exec.allows c.takes_turns.ensures.law start c.args.exec.now source₀ _ _ _ drain₀ _ _ _ _ _ _ _ _ _ c.requires.reads stands told e.source e.drain e.progress e.taken
