-- A replay that goes on.
use Rattle.std.proofs.Common.{◌≡◌, ◌+◌, Bool, true, false, cond, not, ◌&&◌, List, [], ◌∷◌, ◌++◌, length, refl, sym, ap, ◌∙◌, arith, length-append, Option, None, Some, Result, Ok, Err}
use Rattle.std.specs.Prelude.{codes, ◌==◌, option_and_then, option_map}
use Rattle.std.specs.Str.{bytes_eq}
use Rattle.std.specs.Cmp.Lexicographic.{bytes_decides}
use Rattle.zset_core.specs.SetsByKey.{World}
use Rattle.zset_commands.specs.AbstractCommand.{Meaning, is_writing}
use Rattle.zset_commands.specs.AbstractCommand.{has_options}
use Rattle.zset_core.specs.Semantics.{act}
use Rattle.zset_commands.specs.CommandGrammar.{asked, command_named, refusal_of}
use Rattle.zset_commands.specs.MeaningOfForm.{word_at}
use Rattle.zset_commands.specs.declared.refusal.Refusal.{Refusal}
use Rattle.zset_commands.specs.declared.refusal.Refusal.TheVariants.{UnknownCommand}
use Rattle.log_records.specs.Records.{Record}
use Rattle.log_records.specs.Replay.{after, after_reading, is_header, names_version, replay_as, replay_from, replay, version_after, count_from}
use Rattle.log_records.specs.declared.version.Version.{Version}
use Rattle.log_records.specs.declared.version.Version.TheVariants.{Commands, Effects}

step : (o : Option World) (f g : World → Option World) (last : World) (end : Option World) → ((next : World) → f next ≡ Some last → g next ≡ end) → option_and_then f o ≡ Some last → option_and_then g o ≡ end
step None f g last end on is = absurd (let no : None ≡ Some last = is in cc)
step (Some next) f g last end on is = on next is

same_world : (one other : World) → Some one ≡ Some other → one ≡ other
same_world one other is = cc

-- records that replay to a world, and then more
pub replay_as-append : (version : Version) (start : World) (records more : List Record) (world : World) → replay_as version start records ≡ Some world → replay_as version start (records ++ more) ≡ replay_as version world more
replay_as-append version start [] more world is = ap (λ (w : World). replay_as version w more) (same_world start world is)
replay_as-append version start (words ∷ records) more world is =
    step (after version start words) (λ next. replay_as version next records) (λ next. replay_as version next (records ++ more)) world (replay_as version world more) (λ next leads. replay_as-append version next records more world leads) is

kept : (version : Version) (o : Option World) → option_and_then (λ next. replay_as version next []) o ≡ o
kept version None = refl
kept version (Some next) = refl

-- the replay of one record
pub replay_as-one : (version : Version) (world : World) (words : Record) → replay_as version world (words ∷ []) ≡ after version world words
replay_as-one version world words = kept version (after version world words)

pub replay-append : (from : Option Version) (start : World) (records more : List Record) (world : World) → replay_from from start records ≡ Some world
    → replay_from from start (records ++ more) ≡ replay_from (version_after from records) world more
replay-append (Some version) start records more world is = replay_as-append version start records more world is
replay-append None start [] more world is = ap (λ (w : World). replay_from None w more) (same_world start world is)
replay-append None start (words ∷ records) more world is = by (is_header words) (names_version words) is
  where
    by : (h n : Bool) → cond h (replay_as Effects start records) (cond n None (replay_as Commands start (words ∷ records))) ≡ Some world
        → cond h (replay_as Effects start (records ++ more)) (cond n None (replay_as Commands start (words ∷ (records ++ more)))) ≡ replay_as (cond h Effects Commands) world more
    by true n led = replay_as-append Effects start records more world led
    by false true led = absurd (let no : None ≡ Some world = led in cc)
    by false false led = replay_as-append Commands start (words ∷ records) more world led

pub version_after-append : (from : Option Version) (records more : List Record) → version_after from (records ++ more) ≡ version_after (version_after from records) more
version_after-append (Some version) records more = refl
version_after-append None [] more = refl
version_after-append None (words ∷ records) more = refl

pub count-append : (from : Option Version) (records more : List Record) → count_from from (records ++ more) ≡ count_from from records + count_from (version_after from records) more
count-append (Some version) records more = length-append records more
count-append None [] more = omega arith
count-append None (words ∷ records) more = by (is_header words)
  where
    by : (h : Bool) → cond h (length (records ++ more)) (length (records ++ more) + 1) ≡ cond h (length records) (length records + 1) + length more
    by true = length-append records more
    by false = omega (arith, length-append records more)

-- ---- effects are commands too
left_of : (a b : Bool) → (a && b) ≡ true → a ≡ true
left_of true b h = refl
left_of false b h = let no : false ≡ true = h in cc

pub after-as_command : (world next : World) (words : Record) → after Effects world words ≡ Some next → after Commands world words ≡ Some next
after-as_command world next words leads = by (asked words) leads
  where
    of_meaning : (w h : Bool) (o : Option World) → cond (w && not h) o None ≡ Some next → cond w o None ≡ Some next
    of_meaning true true o led = absurd (let no : None ≡ Some next = led in cc)
    of_meaning true false o led = led
    of_meaning false h o led = absurd (let no : None ≡ Some next = led in cc)

    by : (r : Result Meaning Refusal) → after_reading Effects world r ≡ Some next → after_reading Commands world r ≡ Some next
    by (Err refusal) led = led
    by (Ok meaning) led = of_meaning (is_writing meaning) (has_options meaning) (option_map (λ done. done.0) (act world meaning)) led

pub replay-as_commands : (start end : World) (records : List Record) → replay_as Effects start records ≡ Some end → replay_as Commands start records ≡ Some end
replay-as_commands start end [] leads = leads
replay-as_commands start end (words ∷ records) leads = by (after Effects start words) refl leads (λ next led. replay-as_commands next end records led)
  where
    by : (o : Option World) → after Effects start words ≡ o → option_and_then (λ next. replay_as Effects next records) o ≡ Some end
        → ((next : World) → replay_as Effects next records ≡ Some end → replay_as Commands next records ≡ Some end) → replay_as Commands start (words ∷ records) ≡ Some end
    by None is led on = absurd (let no : None ≡ Some end = led in cc)
    by (Some next) is led on = ap (option_and_then (λ next. replay_as Commands next records)) (after-as_command start next words is) ∙ on next led

-- ---- one record more
right_of : (a b : Bool) → (a && b) ≡ true → b ≡ true
right_of true b h = h
right_of false b h = let no : false ≡ true = h in cc

asked_other : (words : Record) → word_at words 0 ≡ codes "ZCRACKD" → asked words ≡ Err UnknownCommand
unfolding asked refusal_of command_named
asked_other words is = rw is refl

-- a record that names a version is no command
named_has_none : (version : Version) (world : World) (words : Record) → names_version words ≡ true → after version world words ≡ None
named_has_none version world words names =
    ap (after_reading version world) (asked_other words ((bytes_decides (word_at words 0) (codes "ZCRACKD")).0 (right_of (length words == 2) _ names)))

-- a record of an effect, in a file of either version, its first one included
pub replays_next : (from : Option Version) (world next : World) (words : Record) → after Effects world words ≡ Some next → replay_from from world (words ∷ []) ≡ Some next
replays_next (Some Effects) world next words leads = replay_as-one Effects world words ∙ leads
replays_next (Some Commands) world next words leads = replay_as-one Commands world words ∙ after-as_command world next words leads
replays_next None world next words leads = by (names_version words) refl
  where
    by : (b : Bool) → names_version words ≡ b
        → cond (b && bytes_eq (word_at words 1) (codes "2")) (replay_as Effects world []) (cond b None (replay_as Commands world (words ∷ []))) ≡ Some next
    by true names = absurd (let no : None ≡ Some next = sym (named_has_none Effects world words names) ∙ leads in cc)
    by false names = replay_as-one Commands world words ∙ after-as_command world next words leads

-- records of effects behind those of a log, or of a file of either version
pub replay-push : (start : World) (records : List Record) (words : Record) (world next : World) → replay start records ≡ Some world → after Effects world words ≡ Some next
    → replay start (records ++ words ∷ []) ≡ Some next
replay-push start records words world next leads one =
    replay-append None start records (words ∷ []) world leads ∙ replays_next (version_after None records) world next words one
