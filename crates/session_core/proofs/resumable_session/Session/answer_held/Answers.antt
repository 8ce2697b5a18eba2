use Rattle.std.proofs.Common.{◌≡◌, refl, sym, ap, ◌∙◌, rules, arith, length}
use Rattle.session_core.proofs.HeldRequests.{begins, half_after, answered_after, halted_after}
use Rattle.session_core.proofs.resumable_session.Session.answer_held.Goals as goal

pub turns-init : goal.turns-init
turns-init g c = record {
  half = begins g.E.Exec.allows c.args.exec.now c.args.self.now.decoder c.args.self.now.progress (g.D.ByteDrain.told c.args.drain.now) c.requires.ready.unfaulted;
  settled = c.requires.settled;
  ready = c.requires.ready;
  good = refl;
}

pub returns-in_err-turn-clause-halted : goal.returns-in_err-turn-clause-halted
returns-in_err-turn-clause-halted g c =
    let halted = halted_after g.E.Exec.allows _ _ _ _ _ _ _ _ c.turns.invariant.half _ _ _ c.in_err-turn.ensures.halted in
    search (rules, halted)

pub returns-then-branch-clause-answered : goal.returns-then-branch-clause-answered
returns-then-branch-clause-answered g c =
    answered_after g.E.Exec.allows _ _ _ _ _ _ _ _ c.turns.invariant.half _ _ _ _ (c.in_ok-turn.ensures.answered c.if-branch.true)

pub turns-preserved : goal.turns-preserved
turns-preserved g c =
    let e = c.in_ok-turn.ensures in
    record {
      half = half_after g.E.Exec.allows _ _ _ _ _ _ _ _ c.turns.invariant.half _ _ _ _ (e.half c.if-branch.false);
      settled = e.settled;
      ready = e.ready;
      good = e.failures ∙ c.turns.invariant.good;
    }
