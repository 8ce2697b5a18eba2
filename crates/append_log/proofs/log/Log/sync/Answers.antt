use Rattle.std.proofs.Common.{◌≡◌, refl, rules, true}
use Rattle.log_records.specs.LogViewAndSteps.{LogView}
use Rattle.log_records.proofs.LogInvariant.{is_log_unsettled, has_unsettled}
use Rattle.append_log.proofs.log.Log.sync.Goals as goal

pub invariant_of-self : goal.invariant_of-self
invariant_of-self g c =
    let stays : g.S.LogSink.synced c.sync.new.self ≡ g.S.LogSink.synced c.self.inside.sink = search rules in (
      is_log_unsettled _ _ c.self.invariant.0 (record {
        unbroken = c.if-self.false;
        waited = c.if-self-2.false;
        told = c.sync.ensures.told;
        synced = stays;
        appended = refl;
        settled = refl;
        deferred = refl;
        written = refl;
        limit = refl;
        broken = refl;
        parts = refl;
        failures = search rules;
      }),
      c.self.invariant.1,
    )

pub returns-then-is_err-clause-records : goal.returns-then-is_err-clause-records
returns-then-is_err-clause-records g c =
    let S = g.S.LogSink in
    let from = c.self.inside in
    let to = c.sync.new.self in
    let stays : S.synced to ≡ S.synced from.sink = search rules in
    let old : LogView = record { told = S.told from.sink; synced = S.synced from.sink; calls = S.calls from.sink; failures = S.failures from.sink; appended = from.appended; settled = from.settled; written = from.written; limit = from.limit; deferred = from.deferred; broken = from.broken; parts = from.rest.parts } in
    let new : LogView = record { told = S.told to; synced = S.synced to; calls = S.calls to; failures = S.failures to; appended = from.appended; settled = from.settled; written = from.written; limit = from.limit; deferred = from.deferred; broken = true; parts = from.rest.parts } in
    λ records has. has_unsettled old new records (record {
      unbroken = c.if-self.false;
      waited = c.if-self-2.false;
      told = c.sync.ensures.told;
      synced = stays;
      appended = refl;
      settled = refl;
      deferred = refl;
      written = refl;
      limit = refl;
      broken = refl;
      parts = refl;
      failures = search rules;
    }) (rw (← c.self.view_is) at has)
