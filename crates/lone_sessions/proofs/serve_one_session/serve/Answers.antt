use Rattle.std.proofs.Common.{◌≡◌, ℕ, ◌≤◌, ◌+◌, ◌*◌, ◌++◌, length, drop, length-append, arith, rules, refl, sym, ◌∙◌, ap, inl, inr, List, Option, Some, None, Err}
use Rattle.session_core.specs.Exchange.{Exchanges}
use Rattle.session_core.proofs.ExchangeLemmas.{exchanges-append}
use Rattle.session_core.proofs.ServeProgress.{begins, unserved, reads_on, ends_by, last_flush_fails}
use Rattle.std.proofs.lemmas.List.{length-take-le}
use Rattle.resp_wire.proofs.CallerLemmas.{err_is}
use Rattle.lone_sessions.proofs.serve_one_session.serve.Goals as goal

pub returns-in-Err-clause-served : goal.returns-in-Err-clause-served
returns-in-Err-clause-served g c = unserved g.E.Exec.allows (Exchanges g.E.Exec.allows) (λ s. refl) (exchanges-append g.E.Exec.allows) _ _ _

pub reads-init : goal.reads-init
reads-init g c = record {
  way = rw (c.in-Ok.ensures.decoder, c.in-Ok.ensures.progress) (begins g.E.Exec.allows (Exchanges g.E.Exec.allows) (λ s. refl) (exchanges-append g.E.Exec.allows) _ _ _);
  slice = c.in-Ok.ensures.piece;
  settled = c.requires.settled;
  bytes = rw c.in-Ok.ensures.decoder (omega arith);
  requests = rw c.in-Ok.ensures.progress (omega arith);
  out = rw c.in-Ok.ensures.progress (omega arith);
  few = omega arith;
  many = omega arith;
  source_good = refl;
  drain_good = refl;
}

pub read_on-requires-clause-some : goal.read_on-requires-clause-some
read_on-requires-clause-some g c = omega (arith, ap length c.deref_mut.ensures.value, c.reads.invariant.slice, c.requires.some)

pub read_on-requires-clause-room : goal.read_on-requires-clause-room
read_on-requires-clause-room g c = omega (arith, ap length c.deref_mut.ensures.value, c.reads.invariant.slice, c.reads.invariant.bytes, c.reads-test.true, c.requires.buffer, c.requires.reads)

pub returns-in_err-ended-clause-served : goal.returns-in_err-ended-clause-served
returns-in_err-ended-clause-served g c =
    let cuts = c.cut.ensures in
    ends_by g.E.Exec.allows (Exchanges g.E.Exec.allows) (λ s. refl) (exchanges-append g.E.Exec.allows) _ _ _ _ _ _ _ _ c.reads.invariant.way cuts.requests_are cuts.rest_is cuts.fault_is _ _ _ _ _ (err_is _ _ c.from_residual.ensures.1) c.in_err-ended.ensures.round

pub reads-preserved : goal.reads-preserved
reads-preserved g c =
    let i = c.reads.invariant in
    let e = c.in_ok-ended.ensures in
    let cuts = c.cut.ensures in
    let kept : length c.read_on.new.buffer ≡ c.args.buffer = c.read_on.auto.buffer ∙ ap length c.deref_mut.ensures.value ∙ i.slice in
    record {
      way = reads_on g.E.Exec.allows (Exchanges g.E.Exec.allows) (λ s. refl) (exchanges-append g.E.Exec.allows) _ _ _ _ _ _ _ _ i.way _ refl _ cuts.requests_are cuts.rest_is cuts.fault_is _ _ _ _ (rw c.in_default.is at e.round);
      slice = length-take-le c.reads.piece.len (c.read_on.new.buffer ++ drop (length c.read_on.new.buffer) c.reads.piece.items) (omega (arith, kept, i.slice, c.reads.piece.ok.0, length-append c.read_on.new.buffer (drop (length c.read_on.new.buffer) c.reads.piece.items))) ∙ c.reads.piece.ok.0 ∙ i.slice;
      settled = e.settled;
      bytes = omega (arith, e.small.bytes, i.bytes, ap length c.deref_mut.ensures.value, i.slice, c.requires.buffer);
      requests = e.small.small.requests;
      out = e.small.small.out;
      few = omega (arith, e.reads, i.few);
      many = omega (arith, e.once, i.many);
      source_good = e.source_failures ∙ i.source_good;
      drain_good = e.drain_failures ∙ i.drain_good;
    }

pub returns-in_err-flush-clause-served : goal.returns-in_err-flush-clause-served
returns-in_err-flush-clause-served g c =
    last_flush_fails g.E.Exec.allows (Exchanges g.E.Exec.allows) (λ s. refl) (exchanges-append g.E.Exec.allows) _ _ _ _ _ _ _ _ c.reads.invariant.way _ c.flush.ensures.told _ (err_is _ _ c.from_residual-in_err-flush.ensures.1 ∙ ap Err c.in_err-flush.ensures.err)
