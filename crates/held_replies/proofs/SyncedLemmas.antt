-- A log that is synced between the commands of its owner.
use Rattle.std.proofs.Common.{◌≡◌, ℕ, ◌≤◌, refl, ap, ◌∙◌, arith, true, Result, Ok, Err}
use Rattle.std.specs.Prelude.{OnOk, IfErr}
use Rattle.zset_core.specs.SetsByKey.{World}
use Rattle.zset_commands.specs.declared.refusal.Refusal.{Refusal}
use Rattle.zset_commands.specs.declared.refusal.Refusal.TheVariants.{LogBroken, LogRefused}
use Rattle.append_log.specs.LogViewAndSteps.{LogView, NotSettled, Settles, Unsettled}
use Rattle.append_log.specs.LoggedOwnerViewAndRuns.{LoggedView, Replays}
use Rattle.held_replies.specs.OwnerSync.{IsSynced}

pub synced-refl : (s : LoggedView) → IsSynced s s
synced-refl s = record {
  world = refl;
  share = refl;
  told = refl;
  appended = refl;
  written = refl;
  limit = refl;
  deferred = refl;
  parts = refl;
  settled = omega arith;
  broken = λ is. is;
  replays = λ start held. held;
}

pub synced-trans : (a b c : LoggedView) → IsSynced a b → IsSynced b c → IsSynced a c
synced-trans a b c x y = record {
  world = y.world ∙ x.world;
  share = y.share ∙ x.share;
  told = y.told ∙ x.told;
  appended = y.appended ∙ x.appended;
  written = y.written ∙ x.written;
  limit = y.limit ∙ x.limit;
  deferred = y.deferred ∙ x.deferred;
  parts = y.parts ∙ x.parts;
  settled = omega (arith, x.settled, y.settled);
  broken = λ is. y.broken (x.broken is);
  replays = λ start held. y.replays start (x.replays start held);
}

-- a sync that was asked for, whatever came of it
module _ (old new : LoggedView) (world : new.world ≡ old.world) (share : new.share ≡ old.share) (within : old.log.settled ≤ old.log.appended) (replays : (start : World) → Replays start old → Replays start new) where
  went_well : Settles old.log new.log → IsSynced old new
  went_well s = record {
    world = world;
    share = share;
    told = s.told;
    appended = s.appended;
    written = s.written;
    limit = s.limit;
    deferred = s.deferred;
    parts = s.parts;
    settled = omega (arith, s.settled, within);
    broken = λ is. s.broken ∙ is;
    replays = replays;
  }

  failed : Unsettled old.log new.log → IsSynced old new
  failed u = record {
    world = world;
    share = share;
    told = u.told;
    appended = u.appended;
    written = u.written;
    limit = u.limit;
    deferred = u.deferred;
    parts = u.parts;
    settled = omega (arith, u.settled);
    broken = λ is. u.broken;
    replays = replays;
  }

  was_broken : new.log ≡ old.log → IsSynced old new
  was_broken same = record {
    world = world;
    share = share;
    told = ap (λ (log : LogView). log.told) same;
    appended = ap (λ (log : LogView). log.appended) same;
    written = ap (λ (log : LogView). log.written) same;
    limit = ap (λ (log : LogView). log.limit) same;
    deferred = ap (λ (log : LogView). log.deferred) same;
    parts = ap (λ (log : LogView). log.parts) same;
    settled = omega (arith, ap (λ (log : LogView). log.settled) same);
    broken = λ is. ap (λ (log : LogView). log.broken) same ∙ is;
    replays = replays;
  }

  pub synced : (result : Result Unit Refusal) → OnOk result (Settles old.log new.log) → IfErr result (λ refusal. NotSettled refusal old.log new.log) → IsSynced old new
  synced (Ok unit) settles err = went_well settles
  synced (Err LogBroken) settles err = was_broken err.0
  synced (Err LogRefused) settles err = failed err
  synced (Err _) settles err = absurd err
