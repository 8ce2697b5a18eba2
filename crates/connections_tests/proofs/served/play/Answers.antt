use Rattle.connections_tests.proofs.served.play.Goals.{in-Some, in_default}
use Rattle.connections_tests.proofs.served.play.Goals as goal

pub loop-turn-preserved : goal.loop-turn-preserved
loop-turn-preserved g c =
    elim c.match-get_mut.branch [
      | in-Some w ↦ rw w.exec-is w.turn.ensures
      | in_default w ↦ rw w.exec-is c.loop-turn.invariant
    ]
