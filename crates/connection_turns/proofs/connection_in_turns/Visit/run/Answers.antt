use Rattle.std.proofs.Common.{refl, Ok, Err, true, false}
use Rattle.session_core.proofs.Interleaving.{moves-refl}
use Rattle.connection_turns.proofs.VisitLemmas.{runs_on, moves_on}
use Rattle.connection_turns.proofs.connection_in_turns.Visit.run.Goals as goal

pub loop-count-init : goal.loop-count-init
loop-count-init g c = record {
  settled = c.requires.settled;
  runs = c.requires.runs;
  moves = moves-refl g.E.Exec.allows _;
  goes_on = λ start source₀ drain₀ stands. stands;
}

pub returns-then-is_all-clause-moves : goal.returns-then-is_all-clause-moves
returns-then-is_all-clause-moves g c = moves_on g.E.Exec.allows _ _ _ _ _ _ _ _ _ (Ok true) c.loop-count.invariant.moves (c.in-Ok.ensures.answered c.if-is_all.true)

pub returns-then-is_all-clause-goes_on : goal.returns-then-is_all-clause-goes_on
returns-then-is_all-clause-goes_on g c = runs_on g.E.Exec.allows c.takes_turns.ensures.law _ _ _ _ _ _ _ _ _ _ _ _ _ _ _ _ _ (Ok true) c.loop-count.invariant.runs c.loop-count.invariant.goes_on (c.in-Ok.ensures.answered c.if-is_all.true) refl

pub returns-in-Err-clause-moves : goal.returns-in-Err-clause-moves
returns-in-Err-clause-moves g c = moves_on g.E.Exec.allows _ _ _ _ _ c.loop-count.self.session.decoder c.turn.new.self.decoder c.loop-count.self.session.progress c.turn.new.self.progress (Err c.in-Err.end) c.loop-count.invariant.moves c.in-Err.ensures.halted

pub returns-in-Err-clause-goes_on : goal.returns-in-Err-clause-goes_on
returns-in-Err-clause-goes_on g c = runs_on g.E.Exec.allows c.takes_turns.ensures.law _ _ _ _ _ _ _ _ _ _ _ c.loop-count.self.session.decoder c.turn.new.self.decoder c.loop-count.self.session.progress c.turn.new.self.progress _ _ (Err c.in-Err.end) c.loop-count.invariant.runs c.loop-count.invariant.goes_on c.in-Err.ensures.halted refl

pub returns-then-len-ge-MOST_HELD-clause-moves : goal.returns-then-len-ge-MOST_HELD-clause-moves
returns-then-len-ge-MOST_HELD-clause-moves g c = moves_on g.E.Exec.allows _ _ _ _ _ _ _ _ _ (Ok false) c.loop-count.invariant.moves (c.in-Ok.ensures.half c.if-is_all.false)

pub returns-then-len-ge-MOST_HELD-clause-goes_on : goal.returns-then-len-ge-MOST_HELD-clause-goes_on
returns-then-len-ge-MOST_HELD-clause-goes_on g c = runs_on g.E.Exec.allows c.takes_turns.ensures.law _ _ _ _ _ _ _ _ _ _ _ _ _ _ _ _ _ (Ok false) c.loop-count.invariant.runs c.loop-count.invariant.goes_on (c.in-Ok.ensures.half c.if-is_all.false) c.loop-count.invariant.runs

pub returns-then-is_over-clause-moves : goal.returns-then-is_over-clause-moves
returns-then-is_over-clause-moves g c = moves_on g.E.Exec.allows _ _ _ _ _ _ _ _ _ (Ok false) c.loop-count.invariant.moves (c.in-Ok.ensures.half c.if-is_all.false)

pub returns-then-is_over-clause-goes_on : goal.returns-then-is_over-clause-goes_on
returns-then-is_over-clause-goes_on g c = runs_on g.E.Exec.allows c.takes_turns.ensures.law _ _ _ _ _ _ _ _ _ _ _ _ _ _ _ _ _ (Ok false) c.loop-count.invariant.runs c.loop-count.invariant.goes_on (c.in-Ok.ensures.half c.if-is_all.false) c.loop-count.invariant.runs

pub loop-count-preserved : goal.loop-count-preserved
loop-count-preserved g c = record {
  settled = c.turn.ensures.settled;
  runs = c.loop-count.invariant.runs;
  moves = moves_on g.E.Exec.allows _ _ _ _ _ _ _ _ _ (Ok false) c.loop-count.invariant.moves (c.in-Ok.ensures.half c.if-is_all.false);
  goes_on = runs_on g.E.Exec.allows c.takes_turns.ensures.law _ _ _ _ _ _ _ _ _ _ _ _ _ _ _ _ _ (Ok false) c.loop-count.invariant.runs c.loop-count.invariant.goes_on (c.in-Ok.ensures.half c.if-is_all.false) c.loop-count.invariant.runs;
}
