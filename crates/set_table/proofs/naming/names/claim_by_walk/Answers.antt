use Rattle.std.proofs.Common.{length, sym, arith, rules}
use Rattle.place_names.proofs.NameLemmas.{found_at, went_on, went_by, other_hash, told_apart, grows_on, full}
use Rattle.set_table.proofs.naming.names.claim_by_walk.Goals as goal

pub returns-then-bears-clause-ok : goal.returns-then-bears-clause-ok
returns-then-bears-clause-ok c = rw c.bears.ensures.same
    (found_at c.loop-step.known.known c.meet_or_name.new.known.known c.args.key.now (length c.args.names.now) c.loop-step.step c.walk-place.result c.in-Ok.name.now
    c.loop-step.invariant.passed c.in-Ok.ensures.seen (c.bears.ensures.is.0 (search (rules, c.if-bears.true))) c.walk-place.ensures.value c.meet_or_name.ensures.own.places (omega arith))

pub loop-step-preserved : goal.loop-step-preserved
loop-step-preserved c = rw c.bears.ensures.same (record {
  own = c.meet_or_name.ensures.own;
  grows = grows_on _ _ _ c.loop-step.invariant.grows c.in-Ok.ensures.seen.grows;
  passed = went_on c.loop-step.known.known c.meet_or_name.new.known.known c.args.key.now (length c.args.names.now) c.loop-step.step c.walk-place.result c.in-Ok.name.now
      c.loop-step.invariant.passed c.in-Ok.ensures.seen (told_apart c.bears.result c.bears.ensures.is.1 c.if-bears.false) c.walk-place.ensures.value c.meet_or_name.ensures.own.places;
})

pub returns-clause-err : goal.returns-clause-err
returns-clause-err c = full c.loop-step.known.known c.args.key.now c.loop-step.step (omega (arith, c.loop-step.invariant.own.places, c.loop-step.auto.step-end)) c.loop-step.invariant.passed

pub loop-step-preserved-then-has_other_hash : goal.loop-step-preserved-then-has_other_hash
loop-step-preserved-then-has_other_hash c = record {
  own = c.loop-step.invariant.own;
  grows = c.loop-step.invariant.grows;
  passed = went_by c.loop-step.known.known c.args.key.now (length c.args.names.now) c.loop-step.step c.walk-place.result c.loop-step.invariant.passed
      (c.has_other_hash.ensures c.args.key.now (sym c.hash-hash.ensures.value) (search (rules, c.if-has_other_hash.true))) c.walk-place.ensures.value c.loop-step.invariant.own.places;
}

pub loop-step-preserved-then-hash : goal.loop-step-preserved-then-hash
loop-step-preserved-then-hash c = record {
  own = c.meet_or_name.ensures.own;
  grows = grows_on _ _ _ c.loop-step.invariant.grows c.in-Ok.ensures.seen.grows;
  passed = went_on c.loop-step.known.known c.meet_or_name.new.known.known c.args.key.now (length c.args.names.now) c.loop-step.step c.walk-place.result c.in-Ok.name.now
      c.loop-step.invariant.passed c.in-Ok.ensures.seen (other_hash c.in-Ok.name.now c.args.key.now c.hash.result c.hash-hash.result c.hash.ensures.value c.hash-hash.ensures.value c.if-hash.true) c.walk-place.ensures.value c.meet_or_name.ensures.own.places;
}
