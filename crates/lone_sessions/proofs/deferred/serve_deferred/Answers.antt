use Rattle.std.proofs.Common.{◌≡◌, ◌≤◌, ◌+◌, ◌*◌, ◌++◌, length, drop, length-append, arith, refl, ◌∙◌, ap, Err}
use Rattle.std.proofs.lemmas.List.{length-take-le}
use Rattle.resp_wire.proofs.CallerLemmas.{err_is}
use Rattle.lone_sessions.proofs.DeferredProgress.{begins, unserved, unsent_way, synced_way, read_out, ends_fault, unsent, not_many}
use Rattle.lone_sessions.proofs.deferred.serve_deferred.Goals as goal

pub returns-in-Err-clause-served : goal.returns-in-Err-clause-served
returns-in-Err-clause-served g c = unserved _ _ _

pub reads-init : goal.reads-init
reads-init g c = record {
  way = rw (c.in-Ok.ensures.decoder, c.in-Ok.ensures.progress) (begins _ _ _);
  slice = c.in-Ok.ensures.piece;
  bytes = rw c.in-Ok.ensures.decoder (omega arith);
  requests = rw c.in-Ok.ensures.progress (omega arith);
  out = rw c.in-Ok.ensures.progress (omega arith);
  few = omega arith;
  many = omega arith;
  source_good = refl;
  drain_good = refl;
}

pub returns-in_err-ended-clause-served : goal.returns-in_err-ended-clause-served
returns-in_err-ended-clause-served g c = ends_fault _ _ _ _ _ _ _ _ (err_is _ _ c.from_residual.ensures.1) (c.in_err-ended.ensures.at _ _ _ c.reads.invariant.way)

pub returns-in_err-ended-clause-many : goal.returns-in_err-ended-clause-many
returns-in_err-ended-clause-many g c = λ many. absurd (not_many _ _ _ c.in_err-ended.was (err_is _ _ c.from_residual.ensures.1) c.read_deferred.ensures.not_many many)

pub returns-in-Some-clause-served : goal.returns-in-Some-clause-served
returns-in-Some-clause-served g c = rw c.in-Some.is at (c.in_ok-ended.ensures.at _ _ _ c.reads.invariant.way)

pub reads-preserved : goal.reads-preserved
reads-preserved g c =
    let i = c.reads.invariant in
    let e = c.in_ok-ended.ensures in
    let kept : length c.read_deferred.new.buffer ≡ 16384 = c.read_deferred.auto.buffer ∙ ap length c.deref_mut.ensures.value ∙ i.slice in
    record {
      way = rw c.in_default.is at (e.at _ _ _ i.way);
      slice = length-take-le c.reads.piece.len (c.read_deferred.new.buffer ++ drop (length c.read_deferred.new.buffer) c.reads.piece.items) (omega (arith, kept, i.slice, c.reads.piece.ok.0, length-append c.read_deferred.new.buffer (drop (length c.read_deferred.new.buffer) c.reads.piece.items))) ∙ c.reads.piece.ok.0 ∙ i.slice;
      bytes = omega (arith, e.small.bytes, i.bytes, ap length c.deref_mut.ensures.value, i.slice);
      requests = e.small.small.requests;
      out = e.small.small.out;
      few = omega (arith, e.reads, i.few);
      many = omega (arith, e.once, i.many);
      source_good = e.source_failures ∙ i.source_good;
      drain_good = e.drain_failures ∙ i.drain_good;
    }

pub returns-in_err-let_go-clause-served : goal.returns-in_err-let_go-clause-served
returns-in_err-let_go-clause-served g c =
    ends_fault _ _ _ _ _ _ _ _ (err_is _ _ c.from_residual-in_err-let_go.ensures.1 ∙ ap Err c.in_err-let_go.ensures.err)
    (unsent_way _ _ _ _ _ _ _ _ c.let_go.ensures.synced c.let_go.ensures.told _ _ c.reads.invariant.way)

pub returns-in_err-let_go-clause-drain_failures : goal.returns-in_err-let_go-clause-drain_failures
returns-in_err-let_go-clause-drain_failures g c =
    unsent _ _ (err_is _ _ c.from_residual-in_err-let_go.ensures.1) _ _ _ c.reads.invariant.drain_good c.in_err-let_go.ensures.failures

pub returns-clause-served : goal.returns-clause-served
returns-clause-served g c = read_out _ _ _ _ _ _ _ _ (synced_way _ _ _ _ _ _ _ _ c.let_go.ensures.synced c.let_go.ensures.told _ _ c.reads.invariant.way)
