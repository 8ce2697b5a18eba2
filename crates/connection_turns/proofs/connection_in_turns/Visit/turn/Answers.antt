use Rattle.session_core.proofs.Interleaving.{moves-refl}
use Rattle.connection_turns.proofs.VisitLemmas.{same_goes, goes_still}
use Rattle.connection_turns.proofs.connection_in_turns.Visit.turn.Goals as goal

pub returns-then-self-settled-clause-moves : goal.returns-then-self-settled-clause-moves
returns-then-self-settled-clause-moves g c = moves-refl g.E.Exec.allows _

pub returns-then-ne-clause-moves : goal.returns-then-ne-clause-moves
returns-then-ne-clause-moves g c = moves-refl g.E.Exec.allows _

pub returns-clause-goes_on : goal.returns-clause-goes_on
returns-clause-goes_on g c =
    let allows = g.E.Exec.allows in
    goes_still allows _ _ _ _ _ c.take_told-told.ensures.same
    (λ start source₀ drain₀ stands.
    let cleared = same_goes allows _ _ c.send_before_turn-cleared.ensures.same _ start source₀ drain₀ stands in
    let lent = same_goes allows _ _ c.lend.ensures.same _ start source₀ drain₀ cleared in
    let ran = c.run_held.ensures.goes_on start source₀ drain₀ (c.read_due.ensures.goes_on start source₀ drain₀ lent) in
    same_goes allows _ _ c.give_back.ensures.same _ start source₀ drain₀ (same_goes allows _ _ c.send_settled-next.ensures.same _ start source₀ drain₀ ran))
