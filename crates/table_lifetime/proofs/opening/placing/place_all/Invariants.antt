use Rattle.std.proofs.Common.{◌≡◌, None, length, drop}
use Rattle.std.specs.FinMap as fin
use Rattle.place_names.specs.Naming.{AreNotesOf}
use Rattle.table_lifetime.specs.Opening.{AreIdleSets, cards_of}
use Rattle.table_lifetime.proofs.OpeningLemmas.{Placed}
use Rattle.table_lifetime.proofs.opening.placing.place_all.Given as goal

abbrev pub invariant-loop : goal.invariant-loop
invariant-loop g l = record {
  own : AreNotesOf l.names l.knowledge;
  idle : l.owner.next ≡ None;
  rest : fin.entries l.owner.world ≡ drop l.counter (fin.entries l.fn.owner.world);
  count : length l.sets.items ≡ length l.names;
  sets_idle : AreIdleSets l.sets.items;
  placed : Placed (fin.entries l.fn.owner.world) l.counter l.knowledge.known (cards_of l.sets.items);
}
