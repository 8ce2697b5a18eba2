use Rattle.std.proofs.Common.{rules, ◌≡◌, ap, ◌∙◌, sym, Err}
use Rattle.resp_wire.proofs.CallerLemmas.{err_is}
use Rattle.session_core.specs.declared.session_end.SessionFault.TheVariants.{WriteFault, Wire}
use Rattle.lone_sessions.proofs.DeferredProgress.{answered, halfway, halted, synced_part, synced_end, unsent_part, past_fault}
use Rattle.lone_sessions.proofs.deferred.answer_deferred.Goals as goal

pub returns-then-is_all-clause-past : goal.returns-then-is_all-clause-past
returns-then-is_all-clause-past g c = λ start source₀ source drain₀ part.
    answered start source₀ drain₀ source _ _ _ _ (c.turns.invariant.part start source₀ source drain₀ part) _ _ _ _ (c.in-Ok.ensures.answered c.if-is_all.true)

pub turns-preserved : goal.turns-preserved
turns-preserved g c =
    let i = c.turns.invariant in
    let e = c.in-Ok.ensures in
    let half = e.half c.if-is_all.false in
    record {
      part = λ start source₀ source drain₀ part. halfway start source₀ drain₀ source _ _ _ _ (i.part start source₀ source drain₀ part) _ _ _ _ half;
      ready = e.ready;
      bytes = half.bytes_are ∙ i.bytes;
      good = e.failures ∙ i.good;
    }

pub turns-preserved-in-Continue-1 : goal.turns-preserved-in-Continue-1
turns-preserved-in-Continue-1 g c =
    let i = c.turns.invariant in
    let e = c.in-Ok.ensures in
    let half = e.half c.if-is_all.false in
    record {
      part = λ start source₀ source drain₀ part. synced_part start source₀ drain₀ source _ _ _ _ c.let_go.ensures.synced c.let_go.ensures.told _ _ (halfway start source₀ drain₀ source _ _ _ _ (i.part start source₀ source drain₀ part) _ _ _ _ half);
      ready = e.ready;
      bytes = half.bytes_are ∙ i.bytes;
      good = c.in_ok-let_go-in-Ok.ensures.failures ∙ e.failures ∙ i.good;
    }

pub returns-in_err-let_go-in-Ok-clause-past : goal.returns-in_err-let_go-in-Ok-clause-past
returns-in_err-let_go-in-Ok-clause-past g c = λ start source₀ source drain₀ part.
    let half = c.in-Ok.ensures.half c.if-is_all.false in
    past_fault start source₀ source drain₀ _ _ _ _ _
    (unsent_part start source₀ drain₀ source _ _ _ _ c.let_go.ensures.synced c.let_go.ensures.told _ _ (halfway start source₀ drain₀ source _ _ _ _ (c.turns.invariant.part start source₀ source drain₀ part) _ _ _ _ half))
    _ (err_is _ _ c.from_residual.ensures.1 ∙ ap Err c.in_err-let_go-in-Ok.ensures.err)

pub returns-in_err-let_go-in-Wire-clause-past : goal.returns-in_err-let_go-in-Wire-clause-past
returns-in_err-let_go-in-Wire-clause-past g c = λ start source₀ source drain₀ part.
    past_fault start source₀ source drain₀ _ _ _ _ _
    (synced_end start source₀ drain₀ source _ _ _ _ c.let_go-in-Wire.ensures.synced c.let_go-in-Wire.ensures.told _
    (halted start source₀ drain₀ source _ _ _ _ (c.turns.invariant.part start source₀ source drain₀ part) _ _ (WriteFault _) (c.in-Err.ensures.counted c.in-Wire.field-0 (ap Err c.in-Wire.is))))
    _ (err_is _ _ c.from_residual-in_err-let_go-in-Wire.ensures.1 ∙ ap Err c.in_err-let_go-in-Wire.ensures.err)

pub returns-in-Wire-clause-past : goal.returns-in-Wire-clause-past
returns-in-Wire-clause-past g c = λ start source₀ source drain₀ part.
    synced_end start source₀ drain₀ source _ _ _ _ c.let_go-in-Wire.ensures.synced c.let_go-in-Wire.ensures.told (Err c.in-Err.end)
    (halted start source₀ drain₀ source _ _ _ _ (c.turns.invariant.part start source₀ source drain₀ part) _ _ c.in-Err.end c.in-Err.ensures.halted)

pub returns-in-NoMemory : goal.returns-in-NoMemory
returns-in-NoMemory g c =
    let e = c.in-Err.ensures in
    record {
      small = tt;
      bytes = tt;
      past = λ start source₀ source drain₀ part. halted start source₀ drain₀ source _ _ _ _ (c.turns.invariant.part start source₀ source drain₀ part) _ _ c.in-Err.end e.halted;
      failures = rw c.turns.invariant.good at e.failures;
      sent_on = search rules;
      between = e.halted.between;
    }
