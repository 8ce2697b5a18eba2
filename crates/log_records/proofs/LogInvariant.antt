-- What every log keeps, over an append and over a sync.
use Rattle.std.proofs.Common.{◌≡◌, ℕ, ◌+◌, ◌^◌, ◌<◌, ◌≤◌, List, [], ◌∷◌, ◌++◌, length, take, drop, refl, sym, ◌∙◌, ap, subst, arith, append_assoc, length-append, Option, None, Some, Bool, true, false, IfSome}
use Rattle.std.proofs.lemmas.List.{append-nil, take-append-drop, take-append-le, take_all, length-take-le, length_push}
use Rattle.std.specs.Io.KnownBytes.{append_known}
use Rattle.std.specs.Prelude.{codes}
use Rattle.resp_wire.specs.RequestEncoding.{request}
use Rattle.log_records.specs.Records.{Record, IsRecord, text_of_records}
use Rattle.log_records.specs.LogViewAndSteps.{LogView, IsLog, HasRecords, Ends, Appends, Breaks, Settles, Unsettled, settled_with}
use Rattle.log_records.proofs.EffectArguments.{asked_remove, effect_request}
use Rattle.log_records.proofs.RecordTexts.{text_of_records-push, AreRecords-push}

-- a record of which nothing was written
abbrev no_bytes : Record
no_bytes = codes "ZREM" ∷ [] ∷ [] ∷ []

no_bytes_are : IsRecord no_bytes
no_bytes_are = record {
  is_request = effect_request (codes "ZREM") [] ([] ∷ []) (omega arith) (omega arith) (omega arith, tt) (omega arith);
  writes = rw (asked_remove [] [] []) refl;
}

module _ (bytes : List ℕ) (records : List Record) (synced settled appended written : ℕ) (s : Ends bytes records synced settled appended written false) where
  tail_off : text_of_records records ++ s.tail ≡ text_of_records records
  tail_off = ap (λ (t : List ℕ). text_of_records records ++ t) s.rest ∙ append-nil (text_of_records records)

  -- with nothing behind the records
  flat : bytes ≡ s.before ++ text_of_records records
  flat = s.whole ∙ ap (λ (l : List ℕ). s.before ++ l) tail_off

  flat_size : length (text_of_records records) ≡ written
  flat_size = ap length (sym tail_off) ∙ s.size

  module _ (entry : Record) (is : IsRecord entry) where
    pushed : text_of_records (records ++ entry ∷ []) ≡ text_of_records records ++ request entry
    pushed = text_of_records-push records entry

    all : bytes ++ request entry ≡ s.before ++ text_of_records (records ++ entry ∷ [])
    all =
        ap (λ (l : List ℕ). l ++ request entry) flat
        ∙ append_assoc s.before (text_of_records records) (request entry)
        ∙ ap (λ (l : List ℕ). s.before ++ l) (sym pushed)

    ends_with : (synced' settled' : ℕ) → (0 < settled' → length (s.before ++ text_of_records (take settled' (records ++ entry ∷ []))) ≤ synced')
        → Ends (bytes ++ request entry) (records ++ entry ∷ []) synced' settled' (appended + 1) (written + length (request entry)) false
    ends_with synced' settled' durable =
        let text = text_of_records (records ++ entry ∷ []) in
        record {
          before = s.before;
          tail = [];
          whole = all ∙ ap (λ (l : List ℕ). s.before ++ l) (sym (append-nil text));
          each = AreRecords-push records entry s.each is;
          count = length_push records entry ∙ ap (λ n. n + 1) s.count;
          size = ap length (append-nil text) ∙ ap length pushed ∙ length-append (text_of_records records) (request entry) ∙ ap (λ n. n + length (request entry)) flat_size;
          rest = refl;
          durable = durable;
        }

    -- synced behind it
    pub ends_synced : Ends (bytes ++ request entry) (records ++ entry ∷ []) (length (bytes ++ request entry)) (appended + 1) (appended + 1) (written + length (request entry)) false
    ends_synced =
        let whole_list : take (appended + 1) (records ++ entry ∷ []) ≡ records ++ entry ∷ [] = take_all (appended + 1) (records ++ entry ∷ []) (omega (arith, length_push records entry, s.count)) in
        ends_with (length (bytes ++ request entry)) (appended + 1)
        (λ _. omega (arith, ap length all, ap (λ (l : List Record). length (s.before ++ text_of_records l)) whole_list))

    -- left to a later sync
    pub ends_unsynced : settled ≤ appended → Ends (bytes ++ request entry) (records ++ entry ∷ []) synced settled (appended + 1) (written + length (request entry)) false
    ends_unsynced within =
        let front : take settled (records ++ entry ∷ []) ≡ take settled records = take-append-le settled records (entry ∷ []) (omega (arith, within, s.count)) in
        ends_with synced settled (λ some. omega (arith, s.durable some, ap (λ (l : List Record). length (s.before ++ text_of_records l)) front))

  pub ends_breaks : (out : ℕ) (entry : Record) → IsRecord entry → out ≤ length (request entry)
      → Ends (bytes ++ take out (request entry)) records synced settled appended (written + out) true
  ends_breaks out entry is le =
      let front = take out (request entry) in
      record {
        before = s.before;
        tail = front;
        whole = ap (λ (l : List ℕ). l ++ front) flat ∙ append_assoc s.before (text_of_records records) front;
        each = s.each;
        count = s.count;
        size = length-append (text_of_records records) front ∙ ap (λ n. n + length front) flat_size ∙ ap (λ n. written + n) (length-take-le out (request entry) le);
        rest = record { record_of = entry; more = drop out (request entry); is_record = is; whole = take-append-drop out (request entry) };
        durable = s.durable;
      }

  -- a sync behind all records
  pub ends_settles : Ends bytes records (length bytes) appended appended written false
  ends_settles =
      let whole_list : take appended records ≡ records = take_all appended records (omega (arith, s.count)) in
      record {
        before = s.before;
        tail = s.tail;
        whole = s.whole;
        each = s.each;
        count = s.count;
        size = s.size;
        rest = s.rest;
        durable = λ _. omega (arith, ap length flat, ap (λ (l : List Record). length (s.before ++ text_of_records l)) whole_list);
      }

  -- one that failed
  pub ends_unsettled : Ends bytes records synced settled appended written true
  ends_unsettled = record {
    before = s.before;
    tail = [];
    whole = flat ∙ ap (λ (l : List ℕ). s.before ++ l) (sym (append-nil (text_of_records records)));
    each = s.each;
    count = s.count;
    size = ap length (append-nil (text_of_records records)) ∙ flat_size;
    rest = record { record_of = no_bytes; more = request no_bytes; is_record = no_bytes_are; whole = refl };
    durable = s.durable;
  }

told_appends : (told : Option (List ℕ)) (records : List Record) (synced settled synced' appended written : ℕ) (deferred : Bool) (entry : Record) → IsRecord entry → settled ≤ appended
    → IfSome told (λ bytes. Ends bytes records synced settled appended written false)
    → (deferred ≡ false → IfSome (append_known told (request entry)) (λ all. synced' ≡ length all))
    → (deferred ≡ true → synced' ≡ synced)
    → IfSome (append_known told (request entry)) (λ bytes. Ends bytes (records ++ entry ∷ []) synced' (settled_with deferred settled (appended + 1)) (appended + 1) (written + length (request entry)) false)
told_appends None records synced settled synced' appended written deferred entry is within s e u = tt
told_appends (Some bytes) records synced settled synced' appended written false entry is within s e u =
    subst (λ (n : ℕ). Ends (bytes ++ request entry) (records ++ entry ∷ []) n (appended + 1) (appended + 1) (written + length (request entry)) false) (sym (e refl)) (ends_synced bytes records synced settled appended written s entry is)
told_appends (Some bytes) records synced settled synced' appended written true entry is within s e u =
    subst (λ (n : ℕ). Ends (bytes ++ request entry) (records ++ entry ∷ []) n settled (appended + 1) (written + length (request entry)) false) (sym (u refl)) (ends_unsynced bytes records synced settled appended written s entry is within)

told_breaks : (told : Option (List ℕ)) (records : List Record) (synced settled appended written out : ℕ) (entry : Record) → IsRecord entry → out ≤ length (request entry)
    → IfSome told (λ bytes. Ends bytes records synced settled appended written false)
    → IfSome (append_known told (take out (request entry))) (λ bytes. Ends bytes records synced settled appended (written + out) true)
told_breaks None records synced settled appended written out entry is le s = tt
told_breaks (Some bytes) records synced settled appended written out entry is le s = ends_breaks bytes records synced settled appended written s out entry is le

told_settles : (told : Option (List ℕ)) (records : List Record) (synced settled synced' appended written : ℕ) → IfSome told (λ bytes. Ends bytes records synced settled appended written false) → IfSome told (λ all. synced' ≡ length all)
    → IfSome told (λ bytes. Ends bytes records synced' appended appended written false)
told_settles None records synced settled synced' appended written s e = tt
told_settles (Some bytes) records synced settled synced' appended written s e =
    subst (λ (n : ℕ). Ends bytes records n appended appended written false) (sym e) (ends_settles bytes records synced settled appended written s)

told_broken : (told : Option (List ℕ)) (records : List Record) (synced settled appended written : ℕ) (broken : Bool) → IfSome told (λ bytes. Ends bytes records synced settled appended written broken) → IfSome told (λ bytes. Ends bytes records synced settled appended written true)
told_broken None records synced settled appended written broken s = tt
told_broken (Some bytes) records synced settled appended written true s = s
told_broken (Some bytes) records synced settled appended written false s = ends_unsettled bytes records synced settled appended written s

-- an append that went well puts its record behind those that stand
pub has_appends : (old new : LogView) (entry : Record) (records : List Record) → old.settled ≤ old.appended → IsRecord entry → Appends old new (request entry) → HasRecords old records → HasRecords new (records ++ entry ∷ [])
has_appends old new entry records within is a has =
    let was = rw a.unbroken at has in
    rw (a.told, a.appended, a.settled, a.written, a.broken, a.unbroken) (told_appends old.told records old.synced old.settled new.synced old.appended old.written old.deferred entry is within was (λ at_once. rw a.told at (a.synced at_once)) a.unsynced)

-- one that failed leaves those that stand
pub has_breaks : (old new : LogView) (entry : Record) (records : List Record) → IsRecord entry → Breaks old new (request entry) → HasRecords old records → HasRecords new records
has_breaks old new entry records is b has =
    let was = rw b.unbroken at has in
    rw (b.told, b.synced, b.appended, b.settled, b.written, b.broken) (told_breaks old.told records old.synced old.settled old.appended old.written b.out entry is b.at_most was)

-- a sync settles those that stand
pub has_settled : (old new : LogView) (records : List Record) → old.broken ≡ false → Settles old new → (old.settled ≡ old.appended → ⊥) → HasRecords old records → HasRecords new records
has_settled old new records good b waited has =
    let was = rw good at has in
    rw (b.told, b.appended, b.settled, b.written, b.broken, good) (told_settles old.told records old.synced old.settled new.synced old.appended old.written was (rw b.told at (b.synced waited)))

pub has_unsettled : (old new : LogView) (records : List Record) → Unsettled old new → HasRecords old records → HasRecords new records
has_unsettled old new records b has =
    let was = rw b.unbroken at has in
    rw (b.told, b.synced, b.appended, b.settled, b.written, b.broken) (told_broken old.told records old.synced old.settled old.appended old.written false was)

by_mode : (deferred : Bool) (settled appended : ℕ) → settled ≤ appended → settled_with deferred settled (appended + 1) ≤ appended + 1
by_mode true settled appended within = omega (arith, within)
by_mode false settled appended within = omega arith

by_mode-at_once : (deferred : Bool) (settled appended : ℕ) → deferred ≡ false → settled_with deferred settled (appended + 1) ≡ appended + 1
by_mode-at_once true settled appended is = absurd (let no : true ≡ false = is in cc)
by_mode-at_once false settled appended is = refl

pub is_log_appends : (old new : LogView) (entry : Record) → IsLog old → IsRecord entry → length (request entry) < 2 ^ 64 → Appends old new (request entry) → IsLog new
is_log_appends old new entry log is fits a =
    let before = log.small_whole a.unbroken in
    record {
      records = log.records ++ entry ∷ [];
      stands = has_appends old new entry log.records log.settled_within is a log.stands;
      within = omega (arith, a.appended, a.limit, log.within, a.room);
      settled_within = rw (a.settled, a.appended) (by_mode old.deferred old.settled old.appended log.settled_within);
      at_once = λ mode. a.settled ∙ by_mode-at_once old.deferred old.settled old.appended (sym a.deferred ∙ mode) ∙ sym a.appended;
      limited = omega (arith, a.limit, log.limited);
      small = omega (arith, a.appended, a.written, before, fits);
      small_whole = λ _. omega (arith, a.appended, a.written, before, fits);
      has_part = omega (arith, a.parts, log.has_part);
    }

pub is_log_breaks : (old new : LogView) (entry : Record) → IsLog old → IsRecord entry → length (request entry) < 2 ^ 64 → Breaks old new (request entry) → IsLog new
is_log_breaks old new entry log is fits b =
    let before = log.small_whole b.unbroken in
    record {
      records = log.records;
      stands = has_breaks old new entry log.records is b log.stands;
      within = omega (arith, b.appended, b.limit, log.within);
      settled_within = omega (arith, b.settled, b.appended, log.settled_within);
      at_once = λ mode. b.settled ∙ log.at_once (sym b.deferred ∙ mode) ∙ sym b.appended;
      limited = omega (arith, b.limit, log.limited);
      small = omega (arith, b.appended, b.written, b.at_most, before, fits);
      small_whole = λ e. absurd (let no : true ≡ false = sym b.broken ∙ e in cc);
      has_part = omega (arith, b.parts, log.has_part);
    }

pub is_log_settled : (old new : LogView) → IsLog old → old.broken ≡ false → Settles old new → (old.settled ≡ old.appended → ⊥) → IsLog new
is_log_settled old new log good b waited =
    let before = log.small_whole good in
    record {
      records = log.records;
      stands = has_settled old new log.records good b waited log.stands;
      within = omega (arith, b.appended, b.limit, log.within);
      settled_within = omega (arith, b.settled, b.appended);
      at_once = λ mode. b.settled ∙ sym b.appended;
      limited = omega (arith, b.limit, log.limited);
      small = omega (arith, b.appended, b.written, before);
      small_whole = λ _. omega (arith, b.appended, b.written, before);
      has_part = omega (arith, b.parts, log.has_part);
    }

pub is_log_unsettled : (old new : LogView) → IsLog old → Unsettled old new → IsLog new
is_log_unsettled old new log b =
    let before = log.small_whole b.unbroken in
    record {
      records = log.records;
      stands = has_unsettled old new log.records b log.stands;
      within = omega (arith, b.appended, b.limit, log.within);
      settled_within = omega (arith, b.settled, b.appended, log.settled_within);
      at_once = λ mode. b.settled ∙ log.at_once (sym b.deferred ∙ mode) ∙ sym b.appended;
      limited = omega (arith, b.limit, log.limited);
      small = omega (arith, b.appended, b.written, before);
      small_whole = λ e. absurd (let no : true ≡ false = sym b.broken ∙ e in cc);
      has_part = omega (arith, b.parts, log.has_part);
    }

-- a log that is broken off
pub is_log_broken_off : (old : LogView) → IsLog old → IsLog (record old { broken = true })
is_log_broken_off old log = record {
  records = log.records;
  stands = told_broken old.told log.records old.synced old.settled old.appended old.written old.broken log.stands;
  within = log.within;
  settled_within = log.settled_within;
  at_once = log.at_once;
  limited = log.limited;
  small = log.small;
  small_whole = λ e. absurd (let no : true ≡ false = e in cc);
  has_part = log.has_part;
}

at_first : (told : Option (List ℕ)) (synced : ℕ) → IfSome told (λ bytes. Ends bytes [] synced 0 0 0 false)
at_first None synced = tt
at_first (Some bytes) synced = record {
  before = bytes;
  tail = [];
  whole = sym (append-nil bytes);
  each = tt;
  count = refl;
  size = refl;
  rest = refl;
  durable = λ e. absurd (omega arith);
}

-- before the first record
pub is_log_new : (log : LogView) → log.appended ≡ 0 → log.settled ≡ 0 → log.written ≡ 0 → log.broken ≡ false → log.limit ≤ 2 ^ 40 → 0 < log.parts → IsLog log
is_log_new log none settled nothing good limited part = record {
  records = [];
  stands = rw (none, settled, nothing, good) (at_first log.told log.synced);
  within = omega (arith, none);
  settled_within = omega (arith, settled);
  at_once = λ _. settled ∙ sym none;
  limited = limited;
  small = omega (arith, nothing);
  small_whole = λ _. omega (arith, nothing);
  has_part = part;
}
