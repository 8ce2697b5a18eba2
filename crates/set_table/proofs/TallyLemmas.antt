-- A run more keeps a cell whole.
use Rattle.std.proofs.Common.{◌≡◌, ℕ, ◌+◌, ◌*◌, ◌^◌, ◌<◌, ◌≤◌, ◌∙◌, false, List, length, replicate, get_or, set, Option, None, Some, Result, Ok, Err, IfSome, IfOk, IfErr, MatchResult, inl, inr, sym, ap, subst, refl, arith, length-set, get_or-set_same}
use Rattle.std.specs.FinMap as fin
use Rattle.std.specs.Prelude.{OnErr}
use Rattle.std.proofs.lemmas.List.{get_or_default, set-get_or}
use Rattle.std.proofs.lemmas.List.Folds.{sum_by-replicate}
use Rattle.std.proofs.lemmas.List.Sums.{sum_by-set, get_or-le-sum_by}
use Rattle.resp_wire.specs.Response.{Response}
use Rattle.zset_commands.specs.AbstractCommand.{Asked, Meaning, is_writing}
use Rattle.sorted_sets.specs.SetAndOwnerViews.{SetView}
use Rattle.zset_commands.specs.declared.refusal.Refusal.{Refusal}
use Rattle.zset_commands.specs.declared.refusal.Refusal.TheVariants.{NoMemory, OutOfStep}
use Rattle.set_table.specs.declared.member_change_counts.Tally.{Tally}
use Rattle.set_table.specs.declared.limits.TheConstants.{MAX_RUNS}
use Rattle.set_table.specs.declared.member_change_counts.Counts.{Counts}
use Rattle.set_table.specs.declared.member_change_counts.OwnCounts.{OwnCounts}
use Rattle.set_table.specs.PassTallies.{ShareView, empty_tally, tally_after, total_of, runs_of, added_of, removed_of, share_after_run, no_counts}
use Rattle.set_table.specs.LoggedStep.{SetStepped, IsLawful, IsLogged, AnswerView}
use Rattle.set_table.specs.CellViewAndRuns.{CellView, CellIsWhole, InStep, HasRun, HasRead, HasNoReading, WasRun, counts_of, new_cell}
use Rattle.set_table.specs.TableAndPassViews.{AreSharesOf, WasAnswered, no_share}
use Rattle.set_table.specs.TableAnswers.{IsAnsweredAt, IsSetRefusal}

-- what one pass was told is within the totals
record Within (t : Tally) (records : List Tally) : Type 0 where
  pub runs : t.runs ≤ runs_of records
  pub added : t.added ≤ added_of records
  pub removed : t.removed ≤ removed_of records

within : (records : List Tally) (p : ℕ) (t : Tally) → p < length records → get_or records p empty_tally ≡ t → Within t records
within records p t less at =
    subst (λ (u : Tally). Within u records) at
    (record {
      runs = get_or-le-sum_by (λ (r : Tally). r.runs) records p empty_tally less;
      added = get_or-le-sum_by (λ (r : Tally). r.added) records p empty_tally less;
      removed = get_or-le-sum_by (λ (r : Tally). r.removed) records p empty_tally less;
    })

-- the sums after one record took over a run
record Sums (records : List Tally) (p : ℕ) (t : Tally) (own : OwnCounts) : Type 0 where
  pub runs : runs_of (set records p (tally_after t own)) ≡ runs_of records + 1
  pub added : added_of (set records p (tally_after t own)) ≡ added_of records + own.added
  pub removed : removed_of (set records p (tally_after t own)) ≡ removed_of records + own.removed

sums : (records : List Tally) (p : ℕ) (t : Tally) (own : OwnCounts) → p < length records → get_or records p empty_tally ≡ t → Sums records p t own
sums records p t own less at =
    let runs = sum_by-set (λ (r : Tally). r.runs) records p (tally_after t own) empty_tally less in
    let added = sum_by-set (λ (r : Tally). r.added) records p (tally_after t own) empty_tally less in
    let removed = sum_by-set (λ (r : Tally). r.removed) records p (tally_after t own) empty_tally less in
    let r = ap (λ (u : Tally). u.runs) at in
    let a = ap (λ (u : Tally). u.added) at in
    let d = ap (λ (u : Tally). u.removed) at in
    record {
      runs = omega (arith, runs, r);
      added = omega (arith, added, a);
      removed = omega (arith, removed, d);
    }

-- the cell after a run
abbrev pub after_run : CellView → ShareView → OwnCounts → SetView → ℕ → CellView
after_run c s own kept appended = record { place = c.place; sorted_set = kept; opened = c.opened; max_runs = c.max_runs; tallies = set c.tallies s.pass (tally_after s.tally own); appended = appended }

pub whole_after : (c : CellView) (s : ShareView) (own : OwnCounts) (kept : SetView) (appended : ℕ) (command : Asked) (reply : Response) → CellIsWhole c → InStep c s → runs_of c.tallies < c.max_runs → kept.next ≡ None
    → SetStepped c.sorted_set.members kept.members command reply own → CellIsWhole (after_run c s own kept appended)
whole_after c s own kept appended command reply whole step room idle stepped =
    let u = sums c.tallies s.pass s.tally own step.pass step.tally in
    record {
      idle = idle;
      adds_up = omega (arith, u.added, u.removed, whole.adds_up, stepped.sums);
      within = omega (arith, u.runs, room);
      bounded = omega (arith, u.runs, u.added, whole.bounded, stepped.few);
      max_fits = whole.max_fits;
      opened_fits = whole.opened_fits;
    }

pub total_after : (c : CellView) (s : ShareView) (total : Tally) (own : OwnCounts) → InStep c s → total ≡ total_of c.tallies → tally_after total own ≡ total_of (set c.tallies s.pass (tally_after s.tally own))
total_after c s total own step is =
    let u = sums c.tallies s.pass s.tally own step.pass step.tally in
    let r = sym u.runs in
    let a = sym u.added in
    let d = sym u.removed in
    ap (λ (t : Tally). tally_after t own) is ∙ (λ i. record { runs = r i; added = a i; removed = d i })

pub still : (c : CellView) (s : ShareView) (own : OwnCounts) (kept : SetView) (appended : ℕ) → InStep c s → InStep (after_run c s own kept appended) (share_after_run s own)
still c s own kept appended h = record {
  place = h.place;
  opened = h.opened;
  pass = omega (arith, h.pass, length-set c.tallies s.pass (tally_after s.tally own));
  tally = get_or-set_same c.tallies s.pass (tally_after s.tally own) empty_tally h.pass;
}

pub lawful : (c : CellView) (kept : SetView) (command : Asked) (reply : Response) (found : Counts) (own : OwnCounts) → CellIsWhole c → SetStepped c.sorted_set.members kept.members command reply own → found ≡ counts_of c → IsLawful command reply found own
lawful c kept command reply found own whole stepped is = record {
  members = c.sorted_set.members;
  after = kept.members;
  size = omega (arith, whole.adds_up, ap (λ (n : Counts). n.opened) is, ap (λ (n : Counts). n.added) is, ap (λ (n : Counts). n.removed) is);
  stepped = stepped;
}

-- what a run leaves and answers
pub ran : (c : CellView) (s : ShareView) (own : OwnCounts) (kept : SetView) (appended : ℕ) (command : Asked) (reply : Response) (found : Counts) → CellIsWhole c → InStep c s → runs_of c.tallies < c.max_runs
    → SetStepped c.sorted_set.members kept.members command reply own → IsLogged c.sorted_set.members kept.members c.appended appended → found ≡ counts_of c
    → HasRun c (after_run c s own kept appended) s (share_after_run s own) command (record { command = command; place = c.place; reply = reply; found = found; own = own })
ran c s own kept appended command reply found whole step room stepped logged is = record {
  in_step = step;
  still = still c s own kept appended step;
  room = room;
  stepped = stepped;
  logged = logged;
  cell = refl;
  share = refl;
  command_is = refl;
  place_is = refl;
  found_is = is;
  lawful = lawful c kept command reply found own whole stepped is;
}

-- the same of a cell by its value, and of what was noted
pub ran_as : (v c : CellView) (s t : ShareView) (own : OwnCounts) (kept : SetView) (records : List Tally) (appended : ℕ) (command : Asked) (reply : Response) (found : Counts) (a : AnswerView) → v ≡ c → CellIsWhole v → InStep c s → runs_of v.tallies < v.max_runs
    → SetStepped v.sorted_set.members kept.members command reply own → IsLogged v.sorted_set.members kept.members v.appended appended → found ≡ counts_of c
    → records ≡ set v.tallies s.pass (tally_after s.tally own) → t ≡ share_after_run s own → a ≡ record { command = command; place = v.place; reply = reply; found = found; own = own }
    → HasRun c (record { place = v.place; sorted_set = kept; opened = v.opened; max_runs = v.max_runs; tallies = records; appended = appended }) s t command a
ran_as v c s t own kept records appended command reply found a is whole step room stepped logged at noted told answer =
    subst (λ (b : AnswerView). HasRun c (record { place = v.place; sorted_set = kept; opened = v.opened; max_runs = v.max_runs; tallies = records; appended = appended }) s t command b) (sym answer)
    (subst (λ (u : ShareView). HasRun c (record { place = v.place; sorted_set = kept; opened = v.opened; max_runs = v.max_runs; tallies = records; appended = appended }) s u command (record { command = command; place = v.place; reply = reply; found = found; own = own })) (sym told)
    (subst (λ (rs : List Tally). HasRun c (record { place = v.place; sorted_set = kept; opened = v.opened; max_runs = v.max_runs; tallies = rs; appended = appended }) s (share_after_run s own) command (record { command = command; place = v.place; reply = reply; found = found; own = own })) (sym noted)
    (subst (λ (d : CellView). HasRun d (after_run v s own kept appended) s (share_after_run s own) command (record { command = command; place = v.place; reply = reply; found = found; own = own })) is
    (ran v s own kept appended command reply found whole (subst (λ (d : CellView). InStep d s) (sym is) step) room stepped logged (at ∙ ap counts_of (sym is))))))

pub kept_whole : (v c : CellView) (s : ShareView) (total left : Tally) (own : OwnCounts) (kept : SetView) (records : List Tally) (appended : ℕ) (command : Asked) (reply : Response) → v ≡ c → CellIsWhole v → InStep c s → runs_of v.tallies < v.max_runs → kept.next ≡ None
    → SetStepped v.sorted_set.members kept.members command reply own → total ≡ total_of v.tallies
    → records ≡ set v.tallies s.pass (tally_after s.tally own) → left ≡ tally_after total own
    → CellIsWhole (record { place = v.place; sorted_set = kept; opened = v.opened; max_runs = v.max_runs; tallies = records; appended = appended }) × (left ≡ total_of records)
kept_whole v c s total left own kept records appended command reply is whole step room idle stepped sum noted told =
    let here : InStep v s = subst (λ (d : CellView). InStep d s) (sym is) step in (
      subst (λ (rs : List Tally). CellIsWhole (record { place = v.place; sorted_set = kept; opened = v.opened; max_runs = v.max_runs; tallies = rs; appended = appended })) (sym noted) (whole_after v s own kept appended command reply whole here room idle stepped),
      told ∙ total_after v s total own here sum ∙ ap total_of (sym noted),
    )

pub has_read : (v c : CellView) (s : ShareView) (command : Asked) (reply : Response) (found : Counts) (own : OwnCounts) (a : AnswerView) → v ≡ c → CellIsWhole v → InStep c s → SetStepped v.sorted_set.members v.sorted_set.members command reply own → own ≡ no_counts → found ≡ counts_of c
    → a ≡ record { command = command; place = v.place; reply = reply; found = found; own = own } → HasRead c s command a
has_read v c s command reply found own a is whole step stepped none at answer =
    subst (λ (b : AnswerView). HasRead c s command b) (sym answer)
    (subst (λ (d : CellView). HasRead d s command (record { command = command; place = v.place; reply = reply; found = found; own = own })) is
    (record {
      in_step = subst (λ (d : CellView). InStep d s) (sym is) step;
      stepped = stepped;
      own_is = none;
      command_is = refl;
      place_is = refl;
      found_is = at ∙ ap counts_of (sym is);
      lawful = lawful v v.sorted_set command reply found own whole stepped (at ∙ ap counts_of (sym is));
    }))

pub ran_by : (c d : CellView) (s t : ShareView) (command : Asked) (a : AnswerView) → HasRun c d s t command a → WasRun s t command a
ran_by c d s t command a h =
    let w = within c.tallies s.pass s.tally h.in_step.pass h.in_step.tally in
    record {
      command_is = h.command_is;
      place_is = h.place_is ∙ h.in_step.place;
      lawful = h.lawful;
      opened_is = ap (λ (n : Counts). n.opened) h.found_is ∙ h.in_step.opened;
      added = omega (arith, w.added, ap (λ (n : Counts). n.added) h.found_is);
      removed = omega (arith, w.removed, ap (λ (n : Counts). n.removed) h.found_is);
      share = h.share;
    }

-- what a reading answers, to a caller who sees the shares of the pass and not the cell
read_by : (opened : List ℕ) (shares : List ShareView) (number place : ℕ) (c : CellView) (command : Asked) (a : AnswerView) → AreSharesOf opened number shares → place < length opened → is_writing command.meaning ≡ false
    → HasRead c (get_or shares place no_share) command a → WasAnswered opened shares shares place command a
read_by opened shares number place c command a are here reads h =
    let s : ShareView = get_or shares place no_share in
    let own = are.each place here in
    let w = within c.tallies s.pass s.tally h.in_step.pass h.in_step.tally in
    record {
      command_is = h.command_is;
      place_is = h.place_is ∙ h.in_step.place ∙ own.place_is;
      lawful = h.lawful;
      opened_is = ap (λ (n : Counts). n.opened) h.found_is ∙ h.in_step.opened ∙ own.opened_is;
      added = omega (arith, w.added, ap (λ (n : Counts). n.added) h.found_is);
      removed = omega (arith, w.removed, ap (λ (n : Counts). n.removed) h.found_is);
      told = inr (reads, refl, h.own_is);
    }

-- why a cell refuses a reading is why a set and its place refuse
refused_reading : (refusal : Refusal) (c : CellView) (s : ShareView) (meaning : Meaning) → HasNoReading refusal c s → IsSetRefusal meaning refusal
refused_reading NoMemory c s meaning h = tt
refused_reading OutOfStep c s meaning h = tt
refused_reading _ c s meaning h = absurd h

-- the same of what a cell answers to the share that stands at the place, if it answers
pub if_read_by : (opened : List ℕ) (shares own : List ShareView) (number place : ℕ) (c : CellView) (s : ShareView) (command : Asked) (r : Option (Result AnswerView Refusal)) → AreSharesOf opened number shares → place < length opened → is_writing command.meaning ≡ false
    → own ≡ shares → s ≡ get_or own place s → IfSome r (λ read. MatchResult read (λ a. HasRead c s command a) (λ refusal. HasNoReading refusal c s)) → IfSome r (IsAnsweredAt opened shares shares place command)
if_read_by opened shares own number place c s command None are here reads same is h = tt
if_read_by opened shares own number place c s command (Some (Err refusal)) are here reads same is h = (refl, refused_reading refusal c s command.meaning h)
if_read_by opened shares own number place c s command (Some (Ok a)) are here reads same is h =
    let at : s ≡ get_or shares place no_share =
    is ∙ ap (λ (list : List ShareView). get_or list place s) same ∙ get_or_default shares place s no_share (omega (arith, are.places, here)) in
    read_by opened shares number place c command a are here reads (subst (λ (t : ShareView). HasRead c t command a) at h)

-- what a run answers, or why it is refused, to such a caller
pub run_by : (opened : List ℕ) (shares own after : List ShareView) (number place : ℕ) (command : Asked) (s t : ShareView) (r : Result AnswerView Refusal) → AreSharesOf opened number shares → place < length opened
    → own ≡ shares → s ≡ get_or own place s → after ≡ set own place t → IfOk r (λ a. WasRun s t command a) → OnErr r (t ≡ s) → IfErr r (IsSetRefusal command.meaning) → IsAnsweredAt opened shares after place command r
run_by opened shares own after number place command s t (Err refusal) are here same is put ran stays refused =
    (put ∙ ap (λ (u : ShareView). set own place u) (stays ∙ is) ∙ set-get_or own place s ∙ same, refused)
run_by opened shares own after number place command s t (Ok a) are here same is put ran stays refused =
    let at : s ≡ get_or shares place no_share =
    is ∙ ap (λ (list : List ShareView). get_or list place s) same ∙ get_or_default shares place s no_share (omega (arith, are.places, here)) in
    let mine = are.each place here in
    record {
      command_is = ran.command_is;
      place_is = ran.place_is ∙ ap (λ (u : ShareView). u.place) at ∙ mine.place_is;
      lawful = ran.lawful;
      opened_is = ran.opened_is ∙ ap (λ (u : ShareView). u.opened) at ∙ mine.opened_is;
      added = omega (arith, ran.added, ap (λ (u : ShareView). u.tally.added) at);
      removed = omega (arith, ran.removed, ap (λ (u : ShareView). u.tally.removed) at);
      told = inl (put ∙ ap (λ (list : List ShareView). set list place t) same ∙ ap (λ (u : ShareView). set shares place u) (ran.share ∙ ap (λ (u : ShareView). share_after_run u a.own) at));
    }

-- a new cell
pub whole_new : (place : ℕ) (kept : SetView) (opened max_runs appended passes : ℕ) (tallies : List Tally) → kept.next ≡ None → opened ≡ fin.len kept.members → opened < 2 ^ 63 → max_runs ≤ MAX_RUNS → tallies ≡ replicate passes empty_tally
    → CellIsWhole (record { place = place; sorted_set = kept; opened = opened; max_runs = max_runs; tallies = tallies; appended = appended }) × (empty_tally ≡ total_of tallies)
whole_new place kept opened max_runs appended passes tallies idle card few most is =
    let runs : runs_of tallies ≡ 0 = ap runs_of is ∙ sum_by-replicate (λ (t : Tally). t.runs) passes empty_tally ∙ none in
    let added : added_of tallies ≡ 0 = ap added_of is ∙ sum_by-replicate (λ (t : Tally). t.added) passes empty_tally ∙ none in
    let removed : removed_of tallies ≡ 0 = ap removed_of is ∙ sum_by-replicate (λ (t : Tally). t.removed) passes empty_tally ∙ none in
    let r = sym runs in
    let a = sym added in
    let d = sym removed in (
      record {
        idle = idle;
        adds_up = omega (arith, card, added, removed);
        within = omega (arith, runs);
        bounded = omega (arith, added);
        max_fits = most;
        opened_fits = few;
      },
      λ i. record { runs = r i; added = a i; removed = d i },
    )
  where
    none : passes * 0 ≡ 0
    none = omega arith

pub cell_is : (place : ℕ) (set : SetView) (opened max_runs appended passes : ℕ) (tallies : List Tally) → opened ≡ fin.len set.members → tallies ≡ replicate passes empty_tally
    → ◌≡◌ {A = CellView} (record { place = place; sorted_set = set; opened = opened; max_runs = max_runs; tallies = tallies; appended = appended }) (new_cell place set max_runs passes appended)
cell_is place set opened max_runs appended passes tallies card is =
    ap (λ n. record { place = place; sorted_set = set; opened = n; max_runs = max_runs; tallies = tallies; appended = appended }) card
    ∙ ap (λ ts. record { place = place; sorted_set = set; opened = fin.len set.members; max_runs = max_runs; tallies = ts; appended = appended }) is
