use Rattle.std.proofs.Common.{◌≡◌, ◌∙◌, ◌+◌, ℕ, None, List, length, refl, sym, ap, subst, arith, length-set}
use Rattle.std.specs.FinMap as fin
use Rattle.std.proofs.lemmas.List.Elements.{All-set}
use Rattle.sorted_sets.specs.SetAndOwnerViews.{SetView}
use Rattle.place_names.specs.Naming.{IsPlace}
use Rattle.table_lifetime.specs.Opening.{AreIdleSets, cards_of}
use Rattle.table_lifetime.proofs.OpeningLemmas.{Placed, next_of, no_entry, none_left, took, placed_none, all_have, all_counted}
use Rattle.table_lifetime.proofs.opening.placing.place_all.Goals as goal

pub loop-init : goal.loop-init
loop-init g c = record {
  own = c.requires.own;
  idle = c.requires.idle;
  rest = refl;
  count = c.requires.sets.count_is;
  sets_idle = c.requires.sets.idle;
  placed = placed_none (fin.entries c.args.owner.world) c.args.knowledge.now.known c.args.sets.now.items c.requires.sets.each;
}

pub unreachable-requires : goal.unreachable-requires
unreachable-requires g c =
    none_left (fin.entries c.args.owner.world) c.loop.counter c.loop.owner.world (omega (arith, c.loop-test.true, c.key_count-end.ensures, fin.len-entries c.args.owner.world)) c.loop.invariant.rest c.in-None.ensures.taken.0

pub loop-preserved : goal.loop-preserved
loop-preserved g c =
    let i = c.loop.invariant in
    let first = c.in-Some.ensures.taken in
    let next = next_of (fin.entries c.args.owner.world) c.loop.counter no_entry (c.in-Some.key.items, c.in-Some.set.members) (fin.entries c.loop.owner.world) (fin.entries c.take_first.new.self.world) i.rest first.entries in
    record {
      own = c.claim.ensures.own;
      idle = c.take_first.ensures.idle;
      rest = next.behind;
      count = ap length c.put.ensures ∙ length-set c.loop.sets.items c.in-Ok.place c.in-Some.set ∙ i.count;
      sets_idle = subst AreIdleSets (sym c.put.ensures) (All-set (λ (s : SetView). s.next ≡ None) c.loop.sets.items c.in-Ok.place c.in-Some.set first.idle i.sets_idle);
      placed = subst (λ (sets : List SetView). Placed (fin.entries c.args.owner.world) (c.loop.counter + 1) c.claim.new.known.known (cards_of sets)) (sym c.put.ensures)
          (took c.args.owner.world c.loop.counter c.loop.knowledge.known c.claim.new.known.known c.loop.sets.items c.in-Ok.place c.in-Some.key.items c.in-Some.set (fin.entries c.take_first.new.self.world) next c.in-Ok.ensures.grows
          (c.claim.ensures.own.places ∙ sym i.count) (subst (λ (k : List ℕ). IsPlace c.claim.new.known.known k c.in-Ok.place) c.deref.ensures.value c.in-Ok.ensures.ok) i.placed);
    }

pub returns-clause-known : goal.returns-clause-known
returns-clause-known g c =
    all_have c.args.owner.world c.loop.counter c.loop.knowledge.known _ (omega (arith, c.loop-test.false, c.loop.auto.counter-end, c.key_count-end.ensures, fin.len-entries c.args.owner.world)) c.loop.invariant.placed

pub returns-clause-sum : goal.returns-clause-sum
returns-clause-sum g c =
    all_counted c.args.owner.world c.loop.counter c.loop.knowledge.known _ (omega (arith, c.loop-test.false, c.loop.auto.counter-end, c.key_count-end.ensures, fin.len-entries c.args.owner.world)) c.loop.invariant.placed
