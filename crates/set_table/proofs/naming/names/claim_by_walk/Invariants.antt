use Rattle.place_names.specs.Naming.{NamingGrows, AreNotesOf}
use Rattle.place_names.proofs.NameLemmas.{Passed}
use Rattle.set_table.proofs.naming.names.claim_by_walk.Given as goal

abbrev pub invariant-loop-step : goal.invariant-loop-step
invariant-loop-step l = record {
  own : AreNotesOf l.names l.known;
  grows : NamingGrows l.fn.known.known l.known.known;
  passed : Passed l.known.known l.key l.step;
}
