use Rattle.std.proofs.Common.{◌≡◌, ◌++◌, length, drop, refl, sym, ◌∙◌, ap, arith, length-append}
use Rattle.std.proofs.lemmas.List.{length-take-le}
use Rattle.resp_wire.proofs.CallerLemmas.{err_is}
use Rattle.log_records.proofs.ReloadFaults.{handed_late}
use Rattle.log_records.proofs.ReloadProgress.{unread, begins, too_many, reads_on, loads, fails}
use Rattle.append_log.proofs.loading.reload.Goals as goal

pub returns-in_err-piece-clause-read : goal.returns-in_err-piece-clause-read
returns-in_err-piece-clause-read g c = unread _ _ _ (err_is _ _ c.from_residual.ensures.1)

pub reads-init : goal.reads-init
reads-init g c = record {
  way = rw (c.new-reloader.ensures.decoder, c.new-reloader.ensures.records, c.new-reloader.ensures.version) (begins _ _);
  slice = sym c.in_ok-piece.piece.ok.0 ∙ c.in_ok-piece.ensures.len;
  idle = c.requires.idle;
  bytes_so_far = rw c.new-reloader.ensures.decoder (omega arith);
  ready = record { unfaulted = ap (λ w. w.fault) c.new-reloader.ensures.decoder; few = omega (arith, c.new-reloader.ensures.records) };
  few = omega arith;
  many = omega arith;
  good = refl;
}

pub returns-in_err-loaded-clause-read : goal.returns-in_err-loaded-clause-read
returns-in_err-loaded-clause-read g c =
    fails _ _ _ _ _ _ _ c.reads.invariant.way _ _ _ _ _ c.in_err-loaded.field-0.0 _ (err_is _ _ c.from_residual-in_err-loaded.ensures.1) c.in_err-loaded.ensures.round

pub returns-in_err-loaded-clause-many : goal.returns-in_err-loaded-clause-many
returns-in_err-loaded-clause-many g c = λ is.
    absurd (handed_late _ _ _ c.from_residual-in_err-loaded.ensures.1 c.in_err-loaded.ensures.not_late is)

pub returns-in-Some-clause-read : goal.returns-in-Some-clause-read
returns-in-Some-clause-read g c =
    loads _ _ _ _ _ _ _ c.reads.invariant.way _ _ _ _ _ c.in-Some.loaded (rw c.in-Some.is at c.in_ok-loaded.ensures.round)

pub reads-preserved : goal.reads-preserved
reads-preserved g c =
    let i = c.reads.invariant in
    let e = c.in_ok-loaded.ensures in
    let kept : length c.read_on.new.buffer ≡ c.args.buffer = c.read_on.auto.buffer ∙ ap length c.deref_mut.ensures.value ∙ i.slice in
    record {
      way = reads_on _ _ _ _ _ _ _ i.way _ _ _ _ _ (rw c.in_default.is at e.round);
      slice = length-take-le c.reads.piece.len (c.read_on.new.buffer ++ drop (length c.read_on.new.buffer) c.reads.piece.items) (omega (arith, kept, i.slice, c.reads.piece.ok.0, length-append c.read_on.new.buffer (drop (length c.read_on.new.buffer) c.reads.piece.items))) ∙ c.reads.piece.ok.0 ∙ i.slice;
      idle = e.idle;
      bytes_so_far = omega (arith, e.bytes, i.bytes_so_far, ap length c.deref_mut.ensures.value, i.slice, c.requires.buffer);
      ready = e.ready;
      few = omega (arith, e.calls, i.few);
      many = omega (arith, e.calls, i.many);
      good = e.failures ∙ i.good;
    }

pub returns-clause-read : goal.returns-clause-read
returns-clause-read g c =
    too_many _ _ _ _ _ _ _ c.reads.invariant.way c.cut.ensures.requests_are c.cut.ensures.rest_is c.cut.ensures.fault_is
