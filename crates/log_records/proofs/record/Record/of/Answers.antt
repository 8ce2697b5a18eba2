use Rattle.std.proofs.Common.{◌≡◌, ◌∙◌, List, ℕ, Option, Some, IfSome, sym, ap, subst}
use Rattle.resp_wire.specs.RequestEncoding.{IsRequest, request}
use Rattle.sorted_sets.specs.SetAndOwnerViews.{Next}
use Rattle.zset_core.specs.SetsByKey.{put_set}
use Rattle.log_records.specs.EffectRecords.{effect_record, next_record, record_of_next, words_in}
use Rattle.log_records.specs.Records.{IsRecord}
use Rattle.log_records.specs.Replay.{after}
use Rattle.log_records.specs.declared.version.Version.TheVariants.{Effects}
use Rattle.log_records.proofs.RecordedEffects.{Remakes, recorded, remade_record, remade_replays, some_key, text_read}
use Rattle.log_records.proofs.record.Record.of.Goals as goal

pub invariant_of-result : goal.invariant_of-result
invariant_of-result g c =
    let command = c.args.command.now in
    let set = c.args.set.now in
    let text = c.in_ok-text.text.items in
    let given = subst IsRequest c.request.ensures.request c.words-words.ensures.within in
    let r = recorded c.printed_scores.ensures.read_back c.printed_scores.ensures.plain command set given c.request.ensures.read c.requires.writing c.key-key.ensures.bounded c.key-key.ensures.fits c.requires.prepared c.in_ok-text.ensures.scores c.requires.changes in
    let read = text_read c.longest.ensures.whole c.longest.ensures.most text (next_record command set) r.2.2.request c.in_ok-text.ensures.text in
    (subst IsRecord (sym read) (remade_record (next_record command set) r.2.0 set.members r.0.0 r.2.2), c.in_ok-text.ensures.text ∙ ap request (sym read))

pub returns-clause-words : goal.returns-clause-words
returns-clause-words g c =
    let command = c.args.command.now in
    let set = c.args.set.now in
    let text = c.in_ok-text.text.items in
    let given = subst IsRequest c.request.ensures.request c.words-words.ensures.within in
    let r = recorded c.printed_scores.ensures.read_back c.printed_scores.ensures.plain command set given c.request.ensures.read c.requires.writing c.key-key.ensures.bounded c.key-key.ensures.fits c.requires.prepared c.in_ok-text.ensures.scores c.requires.changes in
    let read = text_read c.longest.ensures.whole c.longest.ensures.most text (next_record command set) r.2.2.request c.in_ok-text.ensures.text in
    subst (λ (o : Option Next). IfSome o (λ next. words_in text ≡ effect_record command set.members next.members)) (sym r.1) (read ∙ ap (record_of_next command set.members) r.1)

pub returns-clause-replays : goal.returns-clause-replays
returns-clause-replays g c world key keyed here =
    let command = c.args.command.now in
    let set = c.args.set.now in
    let text = c.in_ok-text.text.items in
    let given = subst IsRequest c.request.ensures.request c.words-words.ensures.within in
    let r = recorded c.printed_scores.ensures.read_back c.printed_scores.ensures.plain command set given c.request.ensures.read c.requires.writing c.key-key.ensures.bounded c.key-key.ensures.fits c.requires.prepared c.in_ok-text.ensures.scores c.requires.changes in
    let read = text_read c.longest.ensures.whole c.longest.ensures.most text (next_record command set) r.2.2.request c.in_ok-text.ensures.text in
    let same : r.2.0 ≡ key = some_key r.2.0 (sym r.2.1 ∙ keyed) in
    let remakes = subst (λ (k : List ℕ). Remakes (next_record command set) k set.members r.0.0) same r.2.2 in
    subst (λ (o : Option Next). IfSome o (λ next. after Effects world (words_in text) ≡ Some (put_set world key next.members))) (sym r.1)
    (ap (after Effects world) read ∙ remade_replays (next_record command set) key set.members r.0.0 remakes world here)
