-- The record of a change makes of a set what the change made of it.
use Rattle.std.proofs.Common.{◌≡◌, ℕ, ◌+◌, ◌*◌, ◌≤◌, ℤ, ◌&&◌, ◌-◌, pos, not, if◌then◌else◌, Bool, true, false, cond, List, [], ◌∷◌, ◌++◌, length, slice_get, unwrap_or, append-nil, Option, None, Some, Result, Ok, IfSome, IsTrue, is_some, option_map, refl, sym, ap, subst, ◌∙◌, arith, true≢false}
use Rattle.std.specs.Prelude.{codes, IsOkAnd, ◌≢◌}
use Rattle.std.specs.List.{AllByRecursion, flat_map}
use Rattle.std.specs.FinMap as fin
use Rattle.std.proofs.lemmas.List.{length-map}
use Rattle.resp_wire.specs.RequestEncoding.{Item, IsArgument, IsItem, IsRequest, encoding_of, most_arguments, request}
use Rattle.resp_wire.specs.Stream.{items, rest}
use Rattle.resp_wire.specs.Response.{Response, Integer, NullBulk}
use Rattle.score_bounds.specs.ScoreTexts.{IsScore, IsPlain, score_text, score_value}
use Rattle.zset_core.specs.SortedSet.{Members, Pair, names_of}
use Rattle.zset_commands.specs.AbstractCommand.{Meaning, Asked, key_of, is_writing, Ping, Asks, Changes, Add, Increase, Remove, RemoveRange}
use Rattle.sorted_sets.specs.MovedMembers.{differs, effect, effect_of_next, moved_names, prepared_effect, same_score}
use Rattle.sorted_sets.specs.SetAndOwnerViews.{IsPreparedFor, Next, SetView, Shows}
use Rattle.zset_commands.specs.CommandGrammar.{asked}
use Rattle.zset_commands.specs.RequestLimits.{FitsRequest, IsBoundedMeaning}
use Rattle.zset_core.specs.Semantics.{count_all, put_one, put_all, remove_all, step, act, act_at, increase_reply, is_barred, outcome_of, sum_of}
use Rattle.zset_core.specs.SetsByKey.{World, set_at, put_set}
use Rattle.zset_commands.specs.declared.refusal.Refusal.{Refusal}
use Rattle.zset_commands.specs.declared.flags.Flags.{Flags}
use Rattle.sorted_sets.proofs.Outlines.{has}
use Rattle.sorted_sets.proofs.Gathering.{get-remove_all}
use Rattle.log_records.specs.Dump.{add_record}
use Rattle.log_records.specs.EffectRecords.{EffectEntry, HasScore, effect_words, next_record, record_for, record_of_next, words_in}
use Rattle.log_records.specs.Records.{Record, IsRecord}
use Rattle.log_records.specs.Replay.{after, after_reading, is_effect}
use Rattle.log_records.specs.declared.version.Version.TheVariants.{Effects}
use Rattle.log_records.proofs.RecordTexts.{nothing_short, reads_text}
use Rattle.log_records.proofs.AddRecord.{asked_add, pair_words}
use Rattle.log_records.proofs.SetUnion.{plain}
use Rattle.log_records.proofs.EffectReplay.{effect_adds, effect_removes, has-moved, pairs_of, put_all_keeps, scores_in}
use Rattle.log_records.proofs.EffectArguments.{asked_remove, each_moved, each_word, effect_request, few_moved, few_words, words_of_names, words_of_pairs}

-- a request that is read as an effect, which makes a new set of an old one
pub record Remakes (words : Record) (key : List ℕ) (old new : Members) : Type 0 where
  pub request : IsRequest words
  pub meaning : Meaning
  pub read : asked words ≡ Ok meaning
  pub effect : is_effect meaning ≡ true
  pub keyed : key_of meaning ≡ Some key
  pub reply : Response
  pub made : step old meaning ≡ Some (new, reply)

-- ---- what follows from it
left_of : (a b : Bool) → (a && b) ≡ true → a ≡ true
left_of true b h = refl
left_of false b h = h

writes : (meaning : Meaning) → is_effect meaning ≡ true → IsTrue (is_writing meaning)
writes meaning effect = left_of (is_writing meaning) _ effect

pub remade_record : (words : Record) (key : List ℕ) (old new : Members) → Remakes words key old new → IsRecord words
remade_record words key old new r = record {
  is_request = r.request;
  writes = subst (λ (o : Result Meaning Refusal). IsOkAnd o (λ meaning. IsTrue (is_writing meaning))) (sym r.read) (writes r.meaning r.effect);
}

pub remade_replays : (words : Record) (key : List ℕ) (old new : Members) → Remakes words key old new → (world : World) → set_at world key ≡ old → after Effects world words ≡ Some (put_set world key new)
remade_replays words key old new r world here =
    ap (after_reading Effects world) r.read
    ∙ ap (λ (b : Bool). cond b (option_map (λ done. done.0) (act world r.meaning)) None) r.effect
    ∙ ap (λ (k : Option (List ℕ)). option_map (λ done. done.0) (act_at world k r.meaning)) r.keyed
    ∙ ap (λ (o : Option (Members × Response)). option_map (λ (made : World × Response). made.0) (option_map (λ (done : Members × Response). (put_set world key done.0, done.1)) o))
    (ap (λ (m : Members). step m r.meaning) here ∙ r.made)

-- ---- the scores of pairs
pairs_score : (entries : List EffectEntry) → AllByRecursion HasScore entries → AllByRecursion (λ p. IsScore p.0) (pairs_of entries)
pairs_score [] h = tt
pairs_score (entry ∷ entries) h = by entry.1 h.0 (pairs_score entries h.1)
  where
    by : (o : Option ℤ) → IfSome o IsScore → AllByRecursion (λ p. IsScore p.0) (pairs_of entries) → AllByRecursion (λ p. IsScore p.0) (pairs_of ((entry.0, o) ∷ entries))
    by None is rest = rest
    by (Some score) is rest = (is, rest)

some_done : (a b : Members × Response) → Some a ≡ Some b → a ≡ b
some_done a b is = cc

pub some_key : {key : List ℕ} (k : List ℕ) → Some k ≡ Some key → k ≡ key
some_key k is = cc

-- a member that a ZADD moves is there afterwards
moved_there : (f : Flags) (old : Members) (ps : List Pair) (q : List ℕ) → has (moved_names old (put_all f old ps) (names_of ps)) q ≡ true → is_some (fin.get (put_all f old ps) q) ≡ true
moved_there f old ps q moved = by (fin.get (put_all f old ps) q) refl (fin.get old q) refl
  where
    other : differs old (put_all f old ps) q ≡ true
    other = left_of (differs old (put_all f old ps) q) _ (sym (has-moved old (put_all f old ps) (names_of ps) q) ∙ moved)

    by : (n : Option ℤ) → fin.get (put_all f old ps) q ≡ n → (o : Option ℤ) → fin.get old q ≡ o → is_some n ≡ true
    by (Some s) now o was = refl
    by None now (Some s) was = sym (ap is_some now) ∙ put_all_keeps f old ps q (ap is_some was)
    by None now None was =
        let none : differs old (put_all f old ps) q ≡ false = ap (λ (o : Option ℤ). not (same_score o (fin.get (put_all f old ps) q))) was
        ∙ ap (λ (n : Option ℤ). not (same_score None n)) now in
        absurd (true≢false (sym other ∙ none))

-- a member that a ZREM moves is gone afterwards
right_of : (a b : Bool) → (a && b) ≡ true → b ≡ true
right_of true b h = h
right_of false b h = absurd (true≢false (sym h))

moved_gone : (old : Members) (names : List (List ℕ)) (q : List ℕ) → has (moved_names old (remove_all old names) names) q ≡ true → fin.get (remove_all old names) q ≡ None
moved_gone old names q moved =
    get-remove_all old names q ∙ ap (λ (b : Bool). cond b None (fin.get old q)) (right_of (differs old (remove_all old names) q) (has names q) (sym (has-moved old (remove_all old names) names q) ∙ moved))

-- ---- what a set has prepared
pub prepared_is : (members : Members) (meaning : Meaning) (next : Option Next) → IsPreparedFor members meaning next
    → (done : Members × Response) × (step members meaning ≡ Some done) × (next ≡ Some (record { meaning = meaning; members = done.0; reply = done.1 }))
prepared_is members meaning next shown = by (step members meaning) shown
  where
    by : (o : Option (Members × Response)) → Shows o meaning next → (done : Members × Response) × (o ≡ Some done) × (next ≡ Some (record { meaning = meaning; members = done.0; reply = done.1 }))
    by None no_next = absurd no_next
    by (Some done) is = (done, refl, is)

few_effect : (meaning : Meaning) (old : Members) (done : Members × Response) → step old meaning ≡ Some done → FitsRequest meaning → 2 + length (effect_words (effect old done.0 meaning)) ≤ most_arguments
few_effect (Changes key (Add f ch ps)) old done made fits =
    omega (arith, fits.few, few_words done.0 (moved_names old done.0 (names_of ps)), few_moved old done.0 (names_of ps), length-map ps (λ (p : Pair). p.1))
few_effect (Changes key (Increase f given member)) old done made fits =
    omega (arith, few_words done.0 (moved_names old done.0 (member ∷ [])), few_moved old done.0 (member ∷ []))
few_effect (Changes key (Remove names)) old done made fits =
    let same : remove_all old names ≡ done.0 = ap (λ (d : Members × Response). d.0) (some_done _ _ made) in
    subst (λ (m : Members). 2 + length (effect_words (scores_in m (moved_names old m names))) ≤ most_arguments) same
    (omega (arith, fits.few, few_moved old (remove_all old names) names, ap (λ (l : List (List ℕ)). length l) (words_of_names (remove_all old names) (moved_names old (remove_all old names) names) (moved_gone old names))))
few_effect (Changes key (RemoveRange range)) old done made fits = omega arith
few_effect (Ping text) old done made fits = omega arith
few_effect (Asks key question) old done made fits = omega arith

pub few_prepared : (set : SetView) (meaning : Meaning) → IsPreparedFor set.members meaning set.next → FitsRequest meaning → 2 + length (effect_words (prepared_effect set)) ≤ most_arguments
few_prepared set meaning prepared fits =
    let p = prepared_is set.members meaning set.next prepared in
    subst (λ (o : Option Next). 2 + length (effect_words (effect_of_next set.members o)) ≤ most_arguments) (sym p.2) (few_effect meaning set.members p.0 p.1 fits)

-- a command that names members and moves none leaves its set
no_names : (new : Members) (names : List (List ℕ)) → length (scores_in new names) ≡ 0 → names ≡ []
no_names new [] h = refl
no_names new (n ∷ names) h = absurd (omega (arith, h))

still_add : (f : Flags) (old : Members) (ps : List Pair) → moved_names old (put_all f old ps) (names_of ps) ≡ [] → put_all f old ps ≡ old
still_add f old ps none = sym (effect_adds f old ps) ∙ ap (λ (names : List (List ℕ)). put_all plain old (pairs_of (scores_in (put_all f old ps) names))) none

still_increase : (f : Flags) (old : Members) (member : List ℕ) (done : Members × Response) → (b : Bool) (sum : Option ℤ)
    → (if b then Some (old, NullBulk) else option_map (λ score. (put_one f old member score, increase_reply (outcome_of f (fin.get old member) score) score)) sum) ≡ Some done
    → moved_names old done.0 (member ∷ []) ≡ [] → done.0 ≡ old
still_increase f old member done true sum is none = sym (ap (λ (d : Members × Response). d.0) (some_done _ _ is))
still_increase f old member done false None is none = absurd (let no : None ≡ Some done = is in cc)
still_increase f old member done false (Some score) is none =
    let same : put_all f old ((score, member) ∷ []) ≡ done.0 = ap (λ (d : Members × Response). d.0) (some_done _ _ is) in
    sym same ∙ still_add f old ((score, member) ∷ []) (ap (λ (m : Members). moved_names old m (member ∷ [])) same ∙ none)

given_as : (words : Record) (meaning : Meaning) (old : Members) (done : Members × Response) → IsTrue (is_writing meaning) → step old meaning ≡ Some done → (done.0 ≢ old) → length (effect old done.0 meaning) ≡ 0
    → record_for words (effect old done.0 meaning) meaning ≡ words
given_as words (Changes key (Add f ch ps)) old done writing made changes none =
    let same : put_all f old ps ≡ done.0 = ap (λ (d : Members × Response). d.0) (some_done _ _ made) in
    absurd (changes (sym same ∙ still_add f old ps (ap (λ (m : Members). moved_names old m (names_of ps)) same ∙ no_names done.0 (moved_names old done.0 (names_of ps)) none)))
given_as words (Changes key (Increase f given member)) old done writing made changes none =
    absurd (changes (still_increase f old member done (is_barred f (fin.get old member)) (sum_of (fin.get old member) given) made (no_names done.0 (moved_names old done.0 (member ∷ [])) none)))
given_as words (Changes key (Remove names)) old done writing made changes none =
    let same : remove_all old names ≡ done.0 = ap (λ (d : Members × Response). d.0) (some_done _ _ made) in
    let moved : moved_names old (remove_all old names) names ≡ [] = ap (λ (m : Members). moved_names old m names) same ∙ no_names done.0 (moved_names old done.0 names) none in
    absurd (changes (sym same ∙ sym (effect_removes old names) ∙ ap (remove_all old) moved))
given_as words (Changes key (RemoveRange range)) old done writing made changes none = refl
given_as words (Ping text) old done writing made changes none = refl
given_as words (Asks key question) old done writing made changes none = refl

pub prepared_as_given : (command : Asked) (set : SetView) → IsTrue (is_writing command.meaning) → IsPreparedFor set.members command.meaning set.next → IfSome set.next (λ next. next.members ≢ set.members) → length (prepared_effect set) ≡ 0
    → next_record command set ≡ command.words
prepared_as_given command set writing prepared changes none =
    let p = prepared_is set.members command.meaning set.next prepared in
    ap (record_of_next command set.members) p.2
    ∙ given_as command.words command.meaning set.members p.0 writing p.1 (subst (λ (o : Option Next). IfSome o (λ next. next.members ≢ set.members)) p.2 changes) (ap (λ (o : Option Next). length (effect_of_next set.members o)) (sym p.2) ∙ none)

-- ---- each command
module _ (read_back : (score : ℤ) → IsScore score → score_value (score_text score) ≡ Some score) (is_plain : (score : ℤ) → IsScore score → IsPlain (score_text score)) (key : List ℕ) (word : IsArgument key) where
  -- ZADD of some pairs
  add_of : (old new : Members) (pairs : List Pair) → IsRequest (add_record key pairs) → AllByRecursion (λ p. IsScore p.0) pairs → put_all plain old pairs ≡ new → (new ≢ old) → Remakes (add_record key pairs) key old new
  add_of old new [] request scored made changes = absurd (changes (sym made))
  add_of old new (p ∷ ps) request scored made changes = record {
    request = request;
    meaning = Changes key (Add plain false (p ∷ ps));
    read = asked_add read_back is_plain key p ps scored;
    effect = refl;
    keyed = refl;
    reply = Integer (pos (count_all plain false old (p ∷ ps)));
    made = ap (λ (m : Members). Some (m, Integer (pos (count_all plain false old (p ∷ ps))))) made;
  }

  pub remade_add : (f : Flags) (old : Members) (ps : List Pair) → AllByRecursion IsArgument (names_of ps) → 2 + 2 * length ps ≤ most_arguments
      → AllByRecursion HasScore (scores_in (put_all f old ps) (moved_names old (put_all f old ps) (names_of ps))) → (put_all f old ps ≢ old)
      → Remakes (codes "ZADD" ∷ (key ∷ effect_words (scores_in (put_all f old ps) (moved_names old (put_all f old ps) (names_of ps))))) key old (put_all f old ps)
  remade_add f old ps short few scored changes =
      let new = put_all f old ps in
      let moved = moved_names old new (names_of ps) in
      let entries = scores_in new moved in
      let words : effect_words entries ≡ pair_words (pairs_of entries) = words_of_pairs new moved (moved_there f old ps) in
      let few_names : length moved ≤ length ps = omega (arith, few_moved old new (names_of ps), length-map ps (λ (p : Pair). p.1)) in
      let request = effect_request (codes "ZADD") key (effect_words entries) (omega arith) word (each_word new moved (each_moved IsArgument old new (names_of ps) short) scored) (omega (arith, few_words new moved, few_names, few)) in
      subst (λ (l : List (List ℕ)). Remakes (codes "ZADD" ∷ (key ∷ l)) key old new) (sym words)
      (add_of old new (pairs_of entries) (subst (λ (l : List (List ℕ)). IsRequest (codes "ZADD" ∷ (key ∷ l))) words request) (pairs_score entries scored) (effect_adds f old ps) changes)

  -- ZREM of some names
  remove_of : (old new : Members) (names : List (List ℕ)) → IsRequest (codes "ZREM" ∷ (key ∷ names)) → remove_all old names ≡ new → (new ≢ old) → Remakes (codes "ZREM" ∷ (key ∷ names)) key old new
  remove_of old new [] request made changes = absurd (changes (sym made))
  remove_of old new (n ∷ names) request made changes = record {
    request = request;
    meaning = Changes key (Remove (n ∷ names));
    read = asked_remove key n names;
    effect = refl;
    keyed = refl;
    reply = Integer (pos (fin.len old - fin.len (remove_all old (n ∷ names))));
    made = ap (λ (m : Members). Some (m, Integer (pos (fin.len old - fin.len (remove_all old (n ∷ names)))))) made;
  }

  pub remade_remove : (old : Members) (names : List (List ℕ)) → AllByRecursion IsArgument names → 2 + length names ≤ most_arguments → (remove_all old names ≢ old)
      → Remakes (codes "ZREM" ∷ (key ∷ effect_words (scores_in (remove_all old names) (moved_names old (remove_all old names) names)))) key old (remove_all old names)
  remade_remove old names short few changes =
      let new = remove_all old names in
      let moved = moved_names old new names in
      let words : effect_words (scores_in new moved) ≡ moved = words_of_names new moved (moved_gone old names) in
      let request = effect_request (codes "ZREM") key moved (omega arith) word (each_moved IsArgument old new names short) (omega (arith, few_moved old new names, few)) in
      subst (λ (l : List (List ℕ)). Remakes (codes "ZREM" ∷ (key ∷ l)) key old new) (sym words) (remove_of old new moved request (effect_removes old names) changes)

  -- INCR gives its member the sum, as a ZADD would
  remade_increase : (f : Flags) (old : Members) (given : ℤ) (member : List ℕ) (done : Members × Response) → IsArgument member → (b : Bool) (sum : Option ℤ)
      → (if b then Some (old, NullBulk) else option_map (λ score. (put_one f old member score, increase_reply (outcome_of f (fin.get old member) score) score)) sum) ≡ Some done
      → AllByRecursion HasScore (scores_in done.0 (moved_names old done.0 (member ∷ []))) → (done.0 ≢ old)
      → Remakes (codes "ZADD" ∷ (key ∷ effect_words (scores_in done.0 (moved_names old done.0 (member ∷ []))))) key old done.0
  remade_increase f old given member done short true sum is scored changes = absurd (changes (sym (ap (λ (d : Members × Response). d.0) (some_done _ _ is))))
  remade_increase f old given member done short false None is scored changes = absurd (let no : None ≡ Some done = is in cc)
  remade_increase f old given member done short false (Some score) is scored changes =
      let same : put_all f old ((score, member) ∷ []) ≡ done.0 = ap (λ (d : Members × Response). d.0) (some_done _ _ is) in
      subst (λ (m : Members). Remakes (codes "ZADD" ∷ (key ∷ effect_words (scores_in m (moved_names old m (member ∷ []))))) key old m) same
      (remade_add f old ((score, member) ∷ []) (short, tt) (omega arith)
      (subst (λ (m : Members). AllByRecursion HasScore (scores_in m (moved_names old m (member ∷ [])))) (sym same) scored)
      (λ stays. changes (sym same ∙ stays)))

  -- the record of any of them
  pub remade : (words : Record) (meaning : Meaning) (old : Members) (done : Members × Response) → IsRequest words → asked words ≡ Ok meaning → IsTrue (is_writing meaning) → key_of meaning ≡ Some key → FitsRequest meaning
      → step old meaning ≡ Some done → AllByRecursion HasScore (effect old done.0 meaning) → (done.0 ≢ old) → Remakes (record_for words (effect old done.0 meaning) meaning) key old done.0
  remade words (Changes k (Add f ch ps)) old done request read writing keyed fits made scored changes =
      let same : put_all f old ps ≡ done.0 = ap (λ (d : Members × Response). d.0) (some_done _ _ made) in
      let here : k ≡ key = some_key k keyed in
      subst (λ (n : List ℕ). Remakes (codes "ZADD" ∷ (n ∷ effect_words (effect old done.0 (Changes k (Add f ch ps))))) key old done.0) (sym here)
      (subst (λ (m : Members). Remakes (codes "ZADD" ∷ (key ∷ effect_words (scores_in m (moved_names old m (names_of ps))))) key old m) same
      (remade_add f old ps fits.each fits.few (subst (λ (m : Members). AllByRecursion HasScore (scores_in m (moved_names old m (names_of ps)))) (sym same) scored) (λ stays. changes (sym same ∙ stays))))
  remade words (Changes k (Increase f given member)) old done request read writing keyed fits made scored changes =
      let here : k ≡ key = some_key k keyed in
      subst (λ (n : List ℕ). Remakes (codes "ZADD" ∷ (n ∷ effect_words (effect old done.0 (Changes k (Increase f given member))))) key old done.0) (sym here)
      (remade_increase f old given member done fits.each.0 (is_barred f (fin.get old member)) (sum_of (fin.get old member) given) made scored changes)
  remade words (Changes k (Remove names)) old done request read writing keyed fits made scored changes =
      let same : remove_all old names ≡ done.0 = ap (λ (d : Members × Response). d.0) (some_done _ _ made) in
      let here : k ≡ key = some_key k keyed in
      subst (λ (n : List ℕ). Remakes (codes "ZREM" ∷ (n ∷ effect_words (effect old done.0 (Changes k (Remove names))))) key old done.0) (sym here)
      (subst (λ (m : Members). Remakes (codes "ZREM" ∷ (key ∷ effect_words (scores_in m (moved_names old m names)))) key old m) same
      (remade_remove old names fits.each fits.few (λ stays. changes (sym same ∙ stays))))
  remade words (Changes k (RemoveRange range)) old done request read writing keyed fits made scored changes = record {
    request = request;
    meaning = Changes k (RemoveRange range);
    read = read;
    effect = refl;
    keyed = keyed;
    reply = done.1;
    made = made;
  }
  remade words (Ping text) old done request read writing keyed fits made scored changes = absurd (true≢false (sym writing))
  remade words (Asks k question) old done request read writing keyed fits made scored changes = absurd (true≢false (sym writing))

-- ---- the record of what a set has prepared
written_key : (meaning : Meaning) → IsTrue (is_writing meaning) → (key : List ℕ) × (key_of meaning ≡ Some key)
written_key (Changes key change) writing = (key, refl)
written_key (Ping text) writing = absurd (true≢false (sym writing))
written_key (Asks key question) writing = (key, refl)

pub recorded : ((score : ℤ) → IsScore score → score_value (score_text score) ≡ Some score) → ((score : ℤ) → IsScore score → IsPlain (score_text score)) → (command : Asked) (set : SetView) → IsRequest command.words
    → asked command.words ≡ Ok command.meaning → IsTrue (is_writing command.meaning) → IsBoundedMeaning command.meaning → FitsRequest command.meaning → IsPreparedFor set.members command.meaning set.next
    → AllByRecursion HasScore (prepared_effect set) → IfSome set.next (λ next. next.members ≢ set.members)
    → (done : Members × Response) × (set.next ≡ Some (record { meaning = command.meaning; members = done.0; reply = done.1 }))
    × ((key : List ℕ) × (key_of command.meaning ≡ Some key) × Remakes (next_record command set) key set.members done.0)
recorded read_back is_plain command set request read writing bounded fits prepared scored changes =
    let p = prepared_is set.members command.meaning set.next prepared in
    let k = written_key command.meaning writing in
    let word = subst (λ (o : Option (List ℕ)). IfSome o IsArgument) k.1 bounded.key in
    let scores = subst (λ (o : Option Next). AllByRecursion HasScore (effect_of_next set.members o)) p.2 scored in
    let differs = subst (λ (o : Option Next). IfSome o (λ next. next.members ≢ set.members)) p.2 changes in (
      p.0,
      p.2,
      (
        k.0,
        k.1,
        subst (λ (o : Option Next). Remakes (record_of_next command set.members o) k.0 set.members p.0.0) (sym p.2)
            (remade read_back is_plain k.0 word command.words command.meaning set.members p.0 request read writing k.1 fits p.1 scores differs),
      ),
    )

-- a text is read as the request that it is
pub text_read : ((text : List ℕ) → (text ≡ flat_map encoding_of (items text) ++ rest text) × AllByRecursion IsItem (items text))
    → ((others : List Item) (more : List ℕ) → AllByRecursion IsItem others → items (flat_map encoding_of others ++ more) ≡ others ++ items more)
    → (text : List ℕ) (words : Record) → IsRequest words → text ≡ request words → words_in text ≡ words
text_read whole most text words is_request is =
    ap (λ (read : List Record). unwrap_or (slice_get read 0) [])
    (reads_text whole most text (words ∷ []) [] (is_request, tt) nothing_short (is ∙ sym (append-nil (request words)) ∙ sym (append-nil (request words ++ [])))).0
