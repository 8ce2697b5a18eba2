use Rattle.std.proofs.Common.{◌≡◌, rules, refl, ◌∙◌, ap, arith, length, take, ◌+◌, ◌<◌, ◌^◌, true, false}
use Rattle.std.proofs.lemmas.List.{take_all}
use Rattle.std.specs.Io.KnownBytes.{append_known}
use Rattle.resp_wire.specs.RequestEncoding.{request}
use Rattle.log_records.specs.LogViewAndSteps.{LogView}
use Rattle.log_records.proofs.LogInvariant.{is_log_appends, is_log_breaks, has_appends, has_breaks}
use Rattle.append_log.proofs.log.Log.append.Goals as goal

pub rise-requires : goal.rise-requires
rise-requires g c = omega (arith, c.self.invariant.1, c.self.invariant.0.within, c.self.invariant.0.limited, c.if-self-2.false)

pub invariant_of-self : goal.invariant_of-self
invariant_of-self g c =
    let wrote = rw c.text.ensures.text at c.put-out.ensures in
    let not_whole : c.put-out.result.whole ≡ false = search rules in
    let fits : length (request c.args.entry.now) < 2 ^ 64 = omega (arith, c.text.type_inv.0, ap length c.text.ensures.text) in (
      is_log_breaks _ _ c.args.entry.now c.self.invariant.0 c.text.ensures.is_record fits record {
        unbroken = c.if-self.false;
        room = c.if-self-2.false;
        out = c.put-out.result.taken;
        at_most = wrote.out.at_most;
        told = wrote.out.told;
        synced = wrote.not_synced not_whole;
        appended = refl;
        settled = refl;
        deferred = refl;
        written = refl;
        limit = refl;
        broken = refl;
        parts = refl;
        failures = wrote.out.cause not_whole;
      },
      c.self.invariant.1,
    )

pub returns-then-not-out-clause-err : goal.returns-then-not-out-clause-err
returns-then-not-out-clause-err g c =
    let wrote = rw c.text.ensures.text at c.put-out.ensures in
    let not_whole : c.put-out.result.whole ≡ false = search rules in
    rw (← c.self.view_is) (record {
      unbroken = c.if-self.false;
      room = c.if-self-2.false;
      out = c.put-out.result.taken;
      at_most = wrote.out.at_most;
      told = wrote.out.told;
      synced = wrote.not_synced not_whole;
      appended = refl;
      settled = refl;
      deferred = refl;
      written = refl;
      limit = refl;
      broken = refl;
      parts = refl;
      failures = wrote.out.cause not_whole;
    })

pub invariant_of-self-2 : goal.invariant_of-self-2
invariant_of-self-2 g c =
    let wrote = rw c.text.ensures.text at c.put-out.ensures in
    let whole : c.put-out.result.whole ≡ true = search rules in
    let all = wrote.out.whole whole in
    let fits : length (request c.args.entry.now) < 2 ^ 64 = omega (arith, c.text.type_inv.0, ap length c.text.ensures.text) in
    let text = request c.args.entry.now in
    let sink = c.self.inside.sink in (
      is_log_appends _ _ c.args.entry.now c.self.invariant.0 c.text.ensures.is_record fits record {
        unbroken = c.if-self.false;
        room = c.if-self-2.false;
        told = wrote.out.told ∙ ap (λ n. append_known (g.S.LogSink.told sink) (take n text)) all ∙ ap (append_known (g.S.LogSink.told sink)) (take_all (length text) text (omega arith));
        synced = wrote.synced whole;
        unsynced = wrote.unsynced;
        appended = refl;
        settled = c.settled_after-self-inside.ensures;
        deferred = refl;
        written = ap (λ n. c.self.inside.written + n) all;
        limit = refl;
        broken = refl;
        parts = refl;
        failures = wrote.out.good whole;
      },
      c.rise.ensures.book ∙ ap (λ n. n + 1) c.self.invariant.1,
    )

pub returns-then-not-out-clause-records : goal.returns-then-not-out-clause-records
returns-then-not-out-clause-records g c =
    let S = g.S.LogSink in
    let from = c.self.inside in
    let to = c.put-out.new.sink in
    let out = c.put-out.result.taken in
    let wrote = rw c.text.ensures.text at c.put-out.ensures in
    let not_whole : c.put-out.result.whole ≡ false = search rules in
    let old : LogView = record { told = S.told from.sink; synced = S.synced from.sink; calls = S.calls from.sink; failures = S.failures from.sink; appended = from.appended; settled = from.settled; written = from.written; limit = from.limit; deferred = from.deferred; broken = from.broken; parts = from.rest.parts } in
    let new : LogView = record { told = S.told to; synced = S.synced to; calls = S.calls to; failures = S.failures to; appended = from.appended; settled = from.settled; written = from.written + out; limit = from.limit; deferred = from.deferred; broken = true; parts = from.rest.parts } in
    λ records has. has_breaks old new c.args.entry.now records c.text.ensures.is_record (record {
      unbroken = c.if-self.false;
      room = c.if-self-2.false;
      out = out;
      at_most = wrote.out.at_most;
      told = wrote.out.told;
      synced = wrote.not_synced not_whole;
      appended = refl;
      settled = refl;
      deferred = refl;
      written = refl;
      limit = refl;
      broken = refl;
      parts = refl;
      failures = wrote.out.cause not_whole;
    }) (rw (← c.self.view_is) at has)

pub returns-clause-records : goal.returns-clause-records
returns-clause-records g c =
    let S = g.S.LogSink in
    let from = c.self.inside in
    let to = c.put-out.new.sink in
    let out = c.put-out.result.taken in
    let text = request c.args.entry.now in
    let wrote = rw c.text.ensures.text at c.put-out.ensures in
    let whole : c.put-out.result.whole ≡ true = search rules in
    let all = wrote.out.whole whole in
    let old : LogView = record { told = S.told from.sink; synced = S.synced from.sink; calls = S.calls from.sink; failures = S.failures from.sink; appended = from.appended; settled = from.settled; written = from.written; limit = from.limit; deferred = from.deferred; broken = from.broken; parts = from.rest.parts } in
    let new : LogView = record { told = S.told to; synced = S.synced to; calls = S.calls to; failures = S.failures to; appended = from.appended + 1; settled = c.settled_after-self-inside.result; written = from.written + out; limit = from.limit; deferred = from.deferred; broken = from.broken; parts = from.rest.parts } in
    λ records has. has_appends old new c.args.entry.now records c.self.invariant.0.settled_within c.text.ensures.is_record (record {
      unbroken = c.if-self.false;
      room = c.if-self-2.false;
      told = wrote.out.told ∙ ap (λ n. append_known (S.told from.sink) (take n text)) all ∙ ap (append_known (S.told from.sink)) (take_all (length text) text (omega arith));
      synced = wrote.synced whole;
      unsynced = wrote.unsynced;
      appended = refl;
      settled = c.settled_after-self-inside.ensures;
      deferred = refl;
      written = ap (λ n. from.written + n) all;
      limit = refl;
      broken = refl;
      parts = refl;
      failures = wrote.out.good whole;
    }) (rw (← c.self.view_is) at has)
