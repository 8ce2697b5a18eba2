use Rattle.std.proofs.Common.{◌∙◌, length, sym, ap, arith, rules}
use Rattle.place_names.specs.Naming.{name_at_place, walk}
use Rattle.place_names.proofs.NameLemmas.{found_at, went_on, went_by, other_hash, told_apart, grows_on, none_passed, none_here}
use Rattle.set_table.proofs.naming.names.find_by_walk.Goals as goal

pub returns-in_err-name-clause-none : goal.returns-in_err-name-clause-none
returns-in_err-name-clause-none c =
    let own = c.loop-step.invariant.own in
    let none = ap (λ n. name_at_place c.loop-step.known.known (walk n c.args.key.now c.loop-step.step)) own.places ∙ ap (name_at_place c.loop-step.known.known) (sym c.walk-place.ensures.value) ∙ c.in_err-name.ensures.seen.0 in
    rw c.from_residual.ensures (λ p place. none_here c.args.known.now.known c.loop-step.known.known c.args.key.now c.loop-step.step p c.loop-step.invariant.grows c.loop-step.invariant.passed none place)

pub returns-then-bears-clause-found : goal.returns-then-bears-clause-found
returns-then-bears-clause-found c = rw c.bears.ensures.same
    (found_at c.loop-step.known.known c.meet.new.known.known c.args.key.now (length c.args.names.now) c.loop-step.step c.walk-place.result c.in_ok-name.name.now
    c.loop-step.invariant.passed c.in_ok-name.ensures.seen (c.bears.ensures.is.0 (search (rules, c.if-bears.true))) c.walk-place.ensures.value c.meet.ensures.own.places (omega arith))

pub loop-step-preserved : goal.loop-step-preserved
loop-step-preserved c = rw c.bears.ensures.same (record {
  own = c.meet.ensures.own;
  grows = grows_on _ _ _ c.loop-step.invariant.grows c.in_ok-name.ensures.seen.grows;
  passed = went_on c.loop-step.known.known c.meet.new.known.known c.args.key.now (length c.args.names.now) c.loop-step.step c.walk-place.result c.in_ok-name.name.now
      c.loop-step.invariant.passed c.in_ok-name.ensures.seen (told_apart c.bears.result c.bears.ensures.is.1 c.if-bears.false) c.walk-place.ensures.value c.meet.ensures.own.places;
})

pub returns-clause-none : goal.returns-clause-none
returns-clause-none c = λ p place. none_passed c.args.known.now.known c.loop-step.known.known c.args.key.now c.loop-step.step p c.loop-step.invariant.grows c.loop-step.invariant.passed place
    (omega (arith, place.within, c.requires.own.places))

pub loop-step-preserved-then-has_other_hash : goal.loop-step-preserved-then-has_other_hash
loop-step-preserved-then-has_other_hash c = record {
  own = c.loop-step.invariant.own;
  grows = c.loop-step.invariant.grows;
  passed = went_by c.loop-step.known.known c.args.key.now (length c.args.names.now) c.loop-step.step c.walk-place.result c.loop-step.invariant.passed
      (c.has_other_hash.ensures c.args.key.now (sym c.hash-hash.ensures.value) (search (rules, c.if-has_other_hash.true))) c.walk-place.ensures.value c.loop-step.invariant.own.places;
}

pub loop-step-preserved-then-hash : goal.loop-step-preserved-then-hash
loop-step-preserved-then-hash c = record {
  own = c.meet.ensures.own;
  grows = grows_on _ _ _ c.loop-step.invariant.grows c.in_ok-name.ensures.seen.grows;
  passed = went_on c.loop-step.known.known c.meet.new.known.known c.args.key.now (length c.args.names.now) c.loop-step.step c.walk-place.result c.in_ok-name.name.now
      c.loop-step.invariant.passed c.in_ok-name.ensures.seen (other_hash c.in_ok-name.name.now c.args.key.now c.hash.result c.hash-hash.result c.hash.ensures.value c.hash-hash.ensures.value c.if-hash.true) c.walk-place.ensures.value c.meet.ensures.own.places;
}

pub returns-then-bears-clause-grows : goal.returns-then-bears-clause-grows
returns-then-bears-clause-grows c = rw c.bears.ensures.same (grows_on _ _ _ c.loop-step.invariant.grows c.in_ok-name.ensures.seen.grows)
