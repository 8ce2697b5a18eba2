use Rattle.std.proofs.Common.{◌≡◌, ℕ, subst, ap, ◌∙◌, sym, refl, take, Ok, Err, arith}
use Rattle.std.specs.Io.KnownBytes.{prepend_known}
use Rattle.resp_wire.proofs.CallerLemmas.{err_is}
use Rattle.session_core.specs.declared.session_end.SessionFault.TheVariants.{NoMemory, ReadFault, WriteFault}
use Rattle.std.proofs.lemmas.Grind.{common_steps}
use Rattle.lone_sessions.proofs.DeferredProgress.{synced_way, unsent_way, read_fails, read_ends, read_piece, read_unfed, at_fault, unread}
use Rattle.lone_sessions.proofs.deferred.read_deferred.Goals as goal

pub returns-in_err-let_go-clause-at : goal.returns-in_err-let_go-clause-at
returns-in_err-let_go-clause-at g c = λ start source₀ drain₀ way.
    at_fault start source₀ _ drain₀ _ _ _ _ _
    (unsent_way start source₀ drain₀ _ _ _ _ _ c.let_go.ensures.synced c.let_go.ensures.told _ _ way)
    _ (err_is _ _ c.from_residual.ensures.1 ∙ ap Err c.in_err-let_go.ensures.err)

pub returns-in-Err-clause-at : goal.returns-in-Err-clause-at
returns-in-Err-clause-at g c = λ start source₀ drain₀ way.
    read_fails start source₀ drain₀ _ _ _ _ _ _ (synced_way start source₀ drain₀ _ _ _ _ _ c.let_go.ensures.synced c.let_go.ensures.told _ _ way) c.in-Err.ensures.told

pub returns-in-Ok-eq0-clause-at : goal.returns-in-Ok-eq0-clause-at
returns-in-Ok-eq0-clause-at g c = λ start source₀ drain₀ way.
    let e = c.in-Ok-eq0.ensures in
    let P : ℕ → Type 0 = λ n. g.S.ByteSource.told c.args.source.now ≡ prepend_known (take n c.read.new.buffer) (g.S.ByteSource.told c.read.new.self) in
    read_ends start source₀ drain₀ _ _ _ _ _ _ (synced_way start source₀ drain₀ _ _ _ _ _ c.let_go.ensures.synced c.let_go.ensures.told _ _ way)
    c.ended.result (subst P c.in-Ok-eq0.field-0-test e.told) (e.end (ap Ok c.in-Ok-eq0.field-0-test) (omega (arith, c.requires.some))) c.ended.ensures.requests c.ended.ensures.rest

pub returns-in_err-feed-in-Ok-clause-at : goal.returns-in_err-feed-in-Ok-clause-at
returns-in_err-feed-in-Ok-clause-at g c = λ start source₀ drain₀ way.
    let cuts = c.cut.ensures in
    at_fault start source₀ _ drain₀ _ _ _ _ NoMemory
    (read_unfed start source₀ drain₀ _ _ _ _ _ _ (synced_way start source₀ drain₀ _ _ _ _ _ c.let_go.ensures.synced c.let_go.ensures.told _ _ way)
    cuts.requests_are cuts.rest_is cuts.fault_is (take c.in-Ok.n c.read.new.buffer) c.in-Ok.ensures.told)
    _ (err_is _ _ c.from_residual-in_err-feed-in-Ok.ensures.1 ∙ ap Err c.in_err-feed-in-Ok.ensures.err.0)

pub returns-in_err-answer_deferred-in-Ok-clause-at : goal.returns-in_err-answer_deferred-in-Ok-clause-at
returns-in_err-answer_deferred-in-Ok-clause-at g c = λ start source₀ drain₀ way.
    let cuts = c.cut.ensures in
    at_fault start source₀ _ drain₀ _ _ _ _ _
    (c.in_err-answer_deferred-in-Ok.ensures.past start source₀ _ drain₀ (rw (c.in_ok-feed-in-Ok.ensures.fed, c.feed.ensures.progress) (read_piece start source₀ drain₀ _ _ _ _ _ _ (synced_way start source₀ drain₀ _ _ _ _ _ c.let_go.ensures.synced c.let_go.ensures.told _ _ way) cuts.requests_are cuts.rest_is cuts.fault_is (take c.in-Ok.n c.read.new.buffer) c.in-Ok.ensures.told)))
    _ (err_is _ _ c.from_residual-in_err-answer_deferred-in-Ok.ensures.1)

pub returns-in_err-answer_deferred-in-Ok-clause-source_failures : goal.returns-in_err-answer_deferred-in-Ok-clause-source_failures
returns-in_err-answer_deferred-in-Ok-clause-source_failures g c =
    unread _ _ _ _ (err_is _ _ c.from_residual-in_err-answer_deferred-in-Ok.ensures.1) c.in_err-answer_deferred-in-Ok.ensures.between c.in-Ok.ensures.failures

pub returns-in_ok-answer_deferred-in-Ok-clause-at : goal.returns-in_ok-answer_deferred-in-Ok-clause-at
returns-in_ok-answer_deferred-in-Ok-clause-at g c = λ start source₀ drain₀ way.
    let cuts = c.cut.ensures in
    c.in_ok-answer_deferred-in-Ok.ensures.past start source₀ _ drain₀ (rw (c.in_ok-feed-in-Ok.ensures.fed, c.feed.ensures.progress) (read_piece start source₀ drain₀ _ _ _ _ _ _ (synced_way start source₀ drain₀ _ _ _ _ _ c.let_go.ensures.synced c.let_go.ensures.told _ _ way) cuts.requests_are cuts.rest_is cuts.fault_is (take c.in-Ok.n c.read.new.buffer) c.in-Ok.ensures.told))

pub feed-requires-clause-small : goal.feed-requires-clause-small
feed-requires-clause-small g c = grind (arith, common_steps)

pub returns-in_err-feed-in-Ok-clause-source_failures : goal.returns-in_err-feed-in-Ok-clause-source_failures
returns-in_err-feed-in-Ok-clause-source_failures g c = grind (arith, common_steps)

pub answer_deferred-requires : goal.answer_deferred-requires
answer_deferred-requires g c = grind (arith, common_steps)

pub returns-in_ok-answer_deferred-in-Ok-clause-small : goal.returns-in_ok-answer_deferred-in-Ok-clause-small
returns-in_ok-answer_deferred-in-Ok-clause-small g c = grind (arith, common_steps)
