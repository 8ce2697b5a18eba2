use Rattle.std.proofs.Common.{◌≡◌, ℕ, List, Option, Some, IfSome, sym, ◌∙◌, ap, subst, true, false}
use Rattle.std.specs.Prelude.{◌≢◌}
use Rattle.zset_commands.specs.AbstractCommand.{key_of}
use Rattle.sorted_sets.specs.SetAndOwnerViews.{IsPreparedAt, Next}
use Rattle.zset_core.specs.SetsByKey.{World, put_set, set_at}
use Rattle.resp_wire.specs.RequestEncoding.{request}
use Rattle.resp_wire.specs.Response.{response_of}
use Rattle.log_records.specs.EffectRecords.{change_record, prepared_record, record_made, record_of_owner_next}
use Rattle.log_records.specs.LogViewAndSteps.{Appends}
use Rattle.log_records.specs.LoggedOwnerViewAndRuns.{NotRecorded}
use Rattle.log_records.specs.Records.{Record}
use Rattle.log_records.specs.Replay.{after}
use Rattle.log_records.specs.declared.version.Version.TheVariants.{Effects}
use Rattle.log_records.proofs.SameWorlds.{act-ready}
use Rattle.log_records.proofs.PreparedRecords.{prepared_some, record_made_is}
use Rattle.log_records.proofs.LoggedOwnerLemmas.{committed, changes-next, changes-ready, not_run, Replays-push, Replays-stay}
use Rattle.append_log.proofs.logged.run_writing_once.Goals as goal
use Rattle.append_log.proofs.logged.run_writing_once.Goals.{then-outline+in_default, else-outline}

pub append_command-requires-clause-prepared : goal.append_command-requires-clause-prepared
append_command-requires-clause-prepared g c =
    let meaning = c.args.command.now.meaning in
    subst (λ (w : World). IsPreparedAt w (key_of meaning) meaning c.prepare.new.self.next) (sym c.in_ok-outline.ensures.world) c.in_ok-outline.ensures.ready

pub append_command-requires-clause-changes : goal.append_command-requires-clause-changes
append_command-requires-clause-changes g c =
    subst (λ (w : World). IfSome c.prepare.new.self.next (λ next. next.1.members ≢ set_at w next.0)) (sym c.in_ok-outline.ensures.world)
    (changes-next c.args.owner.now.world c.in_ok-outline.outline c.prepare.new.self.next c.in_ok-outline.ensures.outline c.if-outline.true)

pub returns-in-Err-clause-err : goal.returns-in-Err-clause-err
returns-in-Err-clause-err g c =
    let command = c.args.command.now in
    let world = c.args.owner.now.world in
    let next = c.prepare.new.self.next in
    let changes = changes-ready world (key_of command.meaning) command.meaning c.in_ok-outline.outline next c.in_ok-outline.ensures.ready c.in_ok-outline.ensures.outline c.if-outline.true in
    let same : prepared_record command c.prepare.new.self ≡ record_made command world _ = ap (λ (w : World). record_of_owner_next command w next) c.in_ok-outline.ensures.world ∙ sym (record_made_is command world next c.in_ok-outline.ensures.ready) in
    record {
      world_stays = c.drop_prepared.ensures.world ∙ c.in_ok-outline.ensures.world;
      share_stays = c.in-Err.ensures.share;
      cause = not_run _ _ _ _ _ _ changes (subst (λ (words : Record). NotRecorded c.in-Err.refusal c.args.log.now c.append_command.new.log (request words)) same c.in-Err.ensures.err);
    }

pub returns-in-Err-clause-replays : goal.returns-in-Err-clause-replays
returns-in-Err-clause-replays g c = λ start.
    let world_stays = c.drop_prepared.ensures.world ∙ c.in_ok-outline.ensures.world in
    Replays-stay start _ _ (λ q. ap (λ w. set_at w q) (sym world_stays)) (λ records has. c.in-Err.ensures.records records has)

pub returns-clause-ok : goal.returns-clause-ok
returns-clause-ok g c =
    let command = c.args.command.now in
    let world = c.args.owner.now.world in
    let next = c.prepare.new.self.next in
    let made = rw c.in_ok-outline.ensures.world at c.commit.ensures.made in
    let done = committed world c.commit.new.self.world (key_of command.meaning) command.meaning c.in_ok-outline.outline next (response_of c.commit.result) c.in_ok-outline.ensures.ready c.in_ok-outline.ensures.outline made in
    let acted = act-ready world c.commit.new.self.world (key_of command.meaning) command.meaning next (response_of c.commit.result) c.in_ok-outline.ensures.ready made in
    let same : prepared_record command c.prepare.new.self ≡ change_record command world c.commit.new.self.world =
    ap (λ (w : World). record_of_owner_next command w next) c.in_ok-outline.ensures.world ∙ sym (record_made_is command world next c.in_ok-outline.ensures.ready) ∙ ap (record_made command world) acted in
    elim c.if-outline.branch [
      | then-outline+in_default w ↦ record {
        acted = acted;
        kept = λ same. absurd (done.moved w.if-outline.true same);
        logged = λ differ. (rw w.log-is (subst (λ (words : Record). Appends c.args.log.now w.append_command.new.log (request words)) same w.in_default.ensures.ok), w.share-is ∙ w.in_default.ensures.share);
      }
      | else-outline w ↦ record {
        acted = acted;
        kept = λ same. (w.log-is, w.share-is);
        logged = λ differ. absurd (differ (done.kept w.if-outline.false));
      }
    ]

pub returns-clause-unbroken : goal.returns-clause-unbroken
returns-clause-unbroken g c =
    let command = c.args.command.now in
    let made = rw c.in_ok-outline.ensures.world at c.commit.ensures.made in
    let done = committed c.args.owner.now.world c.commit.new.self.world (key_of command.meaning) command.meaning c.in_ok-outline.outline c.prepare.new.self.next (response_of c.commit.result) c.in_ok-outline.ensures.ready c.in_ok-outline.ensures.outline made in
    λ broken. elim c.if-outline.branch [
      | then-outline+in_default w ↦ absurd (let no_way : true ≡ false = sym broken ∙ w.in_default.ensures.ok.unbroken in cc)
      | else-outline w ↦ done.kept w.if-outline.false
    ]

pub returns-clause-replays : goal.returns-clause-replays
returns-clause-replays g c = λ start.
    let command = c.args.command.now in
    let world = c.args.owner.now.world in
    let next = c.prepare.new.self.next in
    let words = prepared_record command c.prepare.new.self in
    let made = rw c.in_ok-outline.ensures.world at c.commit.ensures.made in
    let done = committed world c.commit.new.self.world (key_of command.meaning) command.meaning c.in_ok-outline.outline next (response_of c.commit.result) c.in_ok-outline.ensures.ready c.in_ok-outline.ensures.outline made in
    let n = prepared_some world (key_of command.meaning) command.meaning next c.in_ok-outline.ensures.ready in
    let end = subst (λ (o : Option (List ℕ × Next)). IfSome o (λ n. (c.commit.new.self.world ≡ put_set world n.0 n.1.members) × (response_of c.commit.result ≡ n.1.reply))) n.1 made in
    elim c.if-outline.branch [
      | then-outline+in_default w ↦ Replays-push start _ _ words n.0.0 n.0.1.members end.0
          (λ v same. subst (λ (o : Option (List ℕ × Next)). IfSome o (λ n. after Effects v words ≡ Some (put_set v n.0 n.1.members))) n.1
          (w.in_default.ensures.replays v (λ q. same q ∙ ap (λ (x : World). set_at x q) (sym c.in_ok-outline.ensures.world))))
          (λ records has. rw w.log-is (w.in_default.ensures.records records has))
      | else-outline w ↦ Replays-stay start _ _ (done.kept w.if-outline.false) (λ records has. rw w.log-is has)
    ]
