-- What a logged owner keeps over a command.
use Rattle.std.proofs.Common.{◌≡◌, ℕ, List, [], ◌∷◌, ◌++◌, refl, sym, ◌∙◌, ap, subst, Option, None, Some, true, false, length, arith, Result, Ok, Err}
use Rattle.std.specs.Prelude.{◌≢◌, IfErr, IfSome, option_map}
use Rattle.resp_wire.specs.Response.{Response}
use Rattle.zset_core.specs.SortedSet.{Members}
use Rattle.zset_commands.specs.AbstractCommand.{Meaning, Asked, key_of, is_writing}
use Rattle.zset_commands.specs.AbstractCommand as meanings
use Rattle.zset_core.specs.Semantics.{step, act_at, act}
use Rattle.sorted_sets.specs.SetAndOwnerViews.{Next, ShowsAt, IsPreparedAt}
use Rattle.sorted_sets.specs.ChangeCounts.{IsOutline}
use Rattle.sorted_sets.specs.declared.set.change_counts.Outline.{Outline}
use Rattle.zset_commands.specs.declared.refusal.Refusal.{Refusal}
use Rattle.zset_commands.specs.declared.refusal.Refusal.TheVariants.{NoMemory, ScoreOverflow}
use Rattle.zset_core.specs.SetsByKey.{World, set_at, put_set}
use Rattle.log_records.specs.Records.{Record}
use Rattle.log_records.specs.Replay.{after}
use Rattle.log_records.specs.declared.version.Version.TheVariants.{Effects}
use Rattle.log_records.specs.LogViewAndSteps.{LogView, HasRecords, IsLog, Ends, NotAppended}
use Rattle.log_records.specs.LoggedOwnerViewAndRuns.{LoggedView, AreSame, ChangesWorld, NotRecorded, NotRun, Replays}
use Rattle.log_records.proofs.ReplayLemmas.{replay-push}
use Rattle.log_records.proofs.SameWorlds.{some_is, AreSame-put_back, AreSame-put_set, set_at-put_set-same}
use Rattle.log_records.proofs.OutlineLemmas.{unchanged}

-- what a commit does, by the outline
pub record Committed (world end : World) (outline : Outline) : Type 0 where
  pub kept : outline.changed ≡ false → AreSame world end
  pub moved : outline.changed ≡ true → AreSame world end → ⊥

by_next : (world end : World) (outline : Outline) (next : List ℕ × Next) → end ≡ put_set world next.0 next.1.members → IsOutline outline (set_at world next.0) next.1.members → Committed world end outline
by_next world end outline next made o = record {
  kept = λ no_change. subst (λ (e : World). AreSame world e) (sym made) (AreSame-put_back world next.0 next.1.members (unchanged outline _ _ o no_change));
  moved = λ change same. o.changed.0 change (sym (set_at-put_set-same world next.0 next.1.members) ∙ ap (λ (e : World). set_at e next.0) (sym made) ∙ sym (same next.0));
}

pub committed : (world end : World) (key : Option (List ℕ)) (meaning : Meaning) (outline : Outline) (next : Option (List ℕ × Next)) (reply : Response) → IsPreparedAt world key meaning next
    → IfSome next (λ n. IsOutline outline (set_at world n.0) n.1.members) → IfSome next (λ n. (end ≡ put_set world n.0 n.1.members) × (reply ≡ n.1.reply)) → Committed world end outline
committed world end None meaning outline next reply ready o made = absurd ready
committed world end (Some k) meaning outline next reply ready o made = shown (step (set_at world k) meaning) ready
  where
    shown : (s : Option (Members × Response)) → ShowsAt k s meaning next → Committed world end outline
    shown None is = absurd is
    shown (Some done) is = by_next world end outline (k, record { meaning = meaning; members = done.0; reply = done.1 }) (subst (λ (n : Option (List ℕ × Next)). IfSome n (λ n. (end ≡ put_set world n.0 n.1.members) × (reply ≡ n.1.reply))) is made).0 (subst (λ (n : Option (List ℕ × Next)). IfSome n (λ n. IsOutline outline (set_at world n.0) n.1.members)) is o)

-- a command that is prepared and whose outline says that it changes its set does so
pub changes-ready : (world : World) (key : Option (List ℕ)) (meaning : Meaning) (outline : Outline) (next : Option (List ℕ × Next)) → IsPreparedAt world key meaning next
    → IfSome next (λ n. IsOutline outline (set_at world n.0) n.1.members) → outline.changed ≡ true → ChangesWorld world (act_at world key meaning)
changes-ready world None meaning outline next ready o change = absurd ready
changes-ready world (Some k) meaning outline next ready o change = shown (step (set_at world k) meaning) ready
  where
    shown : (s : Option (Members × Response)) → ShowsAt k s meaning next → ChangesWorld world (option_map (λ done. (put_set world k done.0, done.1)) s)
    shown None is = absurd is
    shown (Some done) is = (by_next world (put_set world k done.0) outline (k, record { meaning = meaning; members = done.0; reply = done.1 }) refl (subst (λ (n : Option (List ℕ × Next)). IfSome n (λ n. IsOutline outline (set_at world n.0) n.1.members)) is o)).moved change

-- the set that is prepared is another
pub changes-next : (world : World) (outline : Outline) (next : Option (List ℕ × Next)) → IfSome next (λ n. IsOutline outline (set_at world n.0) n.1.members) → outline.changed ≡ true → IfSome next (λ n. n.1.members ≢ set_at world n.0)
changes-next world outline None o change = tt
changes-next world outline (Some n) o change = o.changed.0 change

-- a command that changes a set and whose record is not appended is not run
pub not_run : (refusal : Refusal) (world : World) (made : Option (World × Response)) (bytes : List ℕ) (old new : LogView) → ChangesWorld world made → NotRecorded refusal old new bytes → NotRun refusal world made bytes old new
not_run NoMemory world made bytes old new changes cause = cause
not_run ScoreOverflow world made bytes old new changes cause = absurd cause
not_run refusal world made bytes old new changes cause = (changes, cause)

-- an append's refusal is one of what makes the record first
pub not_recorded : {T : Type 0} (result : Result T Refusal) (old new : LogView) (bytes : List ℕ) → IfErr result (λ refusal. NotAppended refusal old new bytes) → IfErr result (λ refusal. NotRecorded refusal old new bytes)
not_recorded (Ok done) old new bytes cause = tt
not_recorded (Err NoMemory) old new bytes cause = absurd cause
not_recorded (Err refusal) old new bytes cause = cause

-- a record more
pub Replays-push : (start : World) (old new : LoggedView) (words : Record) (key : List ℕ) (members : Members) → new.world ≡ put_set old.world key members
    → ((world : World) → AreSame world old.world → after Effects world words ≡ Some (put_set world key members)) → ((records : List Record) → HasRecords old.log records → HasRecords new.log (records ++ words ∷ []))
    → Replays start old → Replays start new
Replays-push start old new words key members made leads more r = record {
  records = r.records ++ words ∷ [];
  stand = more r.records r.stand;
  world = put_set r.world key members;
  replayed = replay-push start r.records words r.world (put_set r.world key members) r.replayed (leads r.world r.same);
  same = λ q. AreSame-put_set r.world old.world key members r.same q ∙ ap (λ (w : World). set_at w q) (sym made);
}

-- the same records
pub Replays-stay : (start : World) (old new : LoggedView) → AreSame old.world new.world → ((records : List Record) → HasRecords old.log records → HasRecords new.log records) → Replays start old → Replays start new
Replays-stay start old new same stay r = record {
  records = r.records;
  stand = stay r.records r.stand;
  world = r.world;
  replayed = r.replayed;
  same = λ q. r.same q ∙ same q;
}

ends_at : (x : World × Response) (world end : World) (reply : Response) → AreSame world x.0 → Some x ≡ Some (end, reply) → AreSame world end
ends_at x world end reply same is = subst (λ (e : World). AreSame world e) (ap (λ (y : World × Response). y.0) (some_is x (end, reply) is)) same

put_back : (world : World) (k : List ℕ) → AreSame world (put_set world k (set_at world k))
put_back world k = AreSame-put_back world k (set_at world k) refl

-- a command that reads changes no set
pub reading-stays : (world end : World) (meaning : Meaning) (reply : Response) → is_writing meaning ≡ false → act world meaning ≡ Some (end, reply) → AreSame world end
reading-stays world end (meanings.Ping text) reply reads is = ends_at _ world end reply (λ q. refl) is
reading-stays world end (meanings.Asks key question) reply reads is = ends_at _ world end reply (put_back world key) is
reading-stays world end (meanings.Changes key change) reply reads is = absurd (let no_way : true ≡ false = reads in cc)

no_record : (records : List Record) → length records ≡ 0 → records ≡ []
no_record [] e = refl
no_record (entry ∷ records) e = absurd (omega (arith, e))

fresh : (log : LogView) (records : List Record) (told : Option (List ℕ)) → IfSome told (λ bytes. Ends bytes records log.synced log.settled log.appended log.written log.broken) → log.appended ≡ 0 → IfSome told (λ bytes. Ends bytes [] log.synced log.settled log.appended log.written log.broken)
fresh log records None stand none = tt
fresh log records (Some bytes) stand none = subst (λ (l : List Record). Ends bytes l log.synced log.settled log.appended log.written log.broken) (no_record records (stand.count ∙ none)) stand

-- a log of no records replays from a world to itself
pub Replays-fresh : (state : LoggedView) → IsLog state.log → state.log.appended ≡ 0 → Replays state.world state
Replays-fresh state log none = record {
  records = [];
  stand = fresh state.log log.records state.log.told log.stands none;
  world = state.world;
  replayed = refl;
  same = λ q. refl;
}
