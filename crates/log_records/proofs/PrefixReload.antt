-- Every prefix of what a log wrote can be reloaded.
use Rattle.std.proofs.Common.{◌≡◌, ℕ, zero, suc, ◌+◌, ◌-◌, ◌<◌, ◌≤◌, List, [], ◌∷◌, ◌++◌, length, take, drop, refl, sym, ◌∙◌, ap, subst, arith, append_assoc, length-append, length-drop, Option, None, Some, Bool, true, false, IfSome, Err, ◌⊎◌, inl, inr}
use Rattle.std.proofs.lemmas.List.{append-nil, take-append-drop, take-append-le, length-take, nil_from_length}
use Rattle.std.proofs.Math.Seq.{take-append-add}
use Rattle.std.specs.List.{flat_map, AllByRecursion}
use Rattle.resp_wire.specs.declared.fault.Stop.TheVariants.{Short}
use Rattle.resp_wire.specs.RequestEncoding.{Item, Ask, IsItem, IsRequest, request, encoding_of}
use Rattle.resp_wire.specs.Parser.{item_at}
use Rattle.resp_wire.specs.Stream.{items, rest}
use Rattle.log_records.specs.Records.{Record, text_of_records, ReadsPrefix}
use Rattle.log_records.specs.LogViewAndSteps.{LogView, IsLog, Ends, Readable}
use Rattle.log_records.proofs.RecordTexts.{AreRequests, requests_of, text_of_records-push, AreRecords-push, reads_text, nothing_short}

-- a prefix by its parts: whole records, and less than one more
record Parts (bytes : List ℕ) (records : List Record) : Type 0 where
  count : ℕ
  part : List ℕ
  at_most : count ≤ length records
  whole : bytes ≡ text_of_records (take count records) ++ part
  each : AreRequests (take count records)
  short : item_at part ≡ Err Short
  reaches : (k : ℕ) → k ≤ length records → length (text_of_records (take k records)) ≤ length bytes → k ≤ count

lt_or_le : (a b : ℕ) → (a < b) ⊎ (b ≤ a)
lt_or_le zero zero = inr (omega arith)
lt_or_le zero (suc b) = inl (omega arith)
lt_or_le (suc a) zero = inr (omega arith)
lt_or_le (suc a) (suc b) = elim (lt_or_le a b) [ inl h ↦ inl (omega arith) | inr h ↦ inr (omega arith) ]

abbrev IsShort : Type 0
IsShort = (text : List ℕ) (item : Item) (x : ℕ) (more : List ℕ) → IsItem item → text ++ x ∷ more ≡ encoding_of item → item_at text ≡ Err Short

abbrev IsLongest : Type 0
IsLongest = (others : List Item) (more : List ℕ) → AllByRecursion IsItem others → items (flat_map encoding_of others ++ more) ≡ others ++ items more

-- less than a record is no item yet
less : (shorts : IsShort) (entry : Record) (text more : List ℕ) → IsRequest entry → text ++ more ≡ request entry → 0 < length more → item_at text ≡ Err Short
less shorts entry text [] is whole some = absurd (omega (arith, some))
less shorts entry text (x ∷ more) is whole some = shorts text (Ask entry) x more is whole

less_take : (shorts : IsShort) (entry : Record) (n : ℕ) → IsRequest entry → n < length (request entry) → item_at (take n (request entry)) ≡ Err Short
less_take shorts entry n is lt =
    less shorts entry (take n (request entry)) (drop n (request entry)) is (take-append-drop n (request entry)) (omega (arith, length-drop n (request entry)))

reach_none : (entry : Record) (records : List Record) (n : ℕ) → n < length (request entry) → (k : ℕ) → k ≤ length (entry ∷ records) → length (text_of_records (take k (entry ∷ records))) ≤ length (take n (request entry ++ text_of_records records)) → k ≤ 0
reach_none entry records n lt zero le reach = omega arith
reach_none entry records n lt (suc k) le reach =
    absurd (omega (arith, reach, length-take n (request entry ++ text_of_records records), length-append (request entry) (text_of_records (take k records))))

part_of_one : (shorts : IsShort) (entry : Record) (records : List Record) (n : ℕ) → IsRequest entry → n < length (request entry) → Parts (take n (request entry ++ text_of_records records)) (entry ∷ records)
part_of_one shorts entry records n is lt = record {
  count = 0;
  part = take n (request entry ++ text_of_records records);
  at_most = omega arith;
  whole = refl;
  each = tt;
  short = rw (take-append-le n (request entry) (text_of_records records) (omega arith)) (less_take shorts entry n is lt);
  reaches = reach_none entry records n lt;
}

reach_more : (entry : Record) (records : List Record) (bytes : List ℕ) (count : ℕ) → ((k : ℕ) → k ≤ length records → length (text_of_records (take k records)) ≤ length bytes → k ≤ count)
    → (k : ℕ) → k ≤ length (entry ∷ records) → length (text_of_records (take k (entry ∷ records))) ≤ length (request entry ++ bytes) → k ≤ suc count
reach_more entry records bytes count reaches zero le reach = omega arith
reach_more entry records bytes count reaches (suc k) le reach =
    let further = reaches k (omega (arith, le)) (omega (arith, reach, length-append (request entry) (text_of_records (take k records)), length-append (request entry) bytes)) in
    omega (arith, further)

one_more : (entry : Record) (records : List Record) (bytes : List ℕ) → IsRequest entry → Parts bytes records → Parts (request entry ++ bytes) (entry ∷ records)
one_more entry records bytes is p = record {
  count = suc p.count;
  part = p.part;
  at_most = omega (arith, p.at_most);
  whole = ap (λ (l : List ℕ). request entry ++ l) p.whole ∙ sym (append_assoc (request entry) (text_of_records (take p.count records)) p.part);
  each = (is, p.each);
  short = p.short;
  reaches = reach_more entry records bytes p.count p.reaches;
}

parts_of : (shorts : IsShort) → item_at [] ≡ Err Short → (records : List Record) → AreRequests records → (n : ℕ) → n ≤ length (text_of_records records) → Parts (take n (text_of_records records)) records
parts_of shorts empty [] each n le = record {
  count = 0;
  part = take n [];
  at_most = omega arith;
  whole = refl;
  each = tt;
  short = rw (nil_from_length {X = ℕ} (take n []) (omega (arith, length-take {A = ℕ} n []))) empty;
  reaches = λ k few reach. few;
}
parts_of shorts empty (entry ∷ records) each n le =
    elim (lt_or_le n (length (request entry))) [
      | inl lt ↦ part_of_one shorts entry records n each.0 lt
      | inr ge ↦
          let m = n - length (request entry) in
          let is : take n (request entry ++ text_of_records records) ≡ request entry ++ take m (text_of_records records) =
          ap (λ i. take i (request entry ++ text_of_records records)) (let e : n ≡ length (request entry) + m = omega (arith, ge) in e)
          ∙ take-append-add (request entry) (text_of_records records) m in
          subst (λ (l : List ℕ). Parts l (entry ∷ records)) (sym is)
          (one_more entry records (take m (text_of_records records)) each.0 (parts_of shorts empty records each.1 m (omega (arith, le, length-append (request entry) (text_of_records records)))))
    ]

module _ (whole : (text : List ℕ) → (text ≡ flat_map encoding_of (items text) ++ rest text) × AllByRecursion IsItem (items text)) (most : IsLongest) (shorts : IsShort) where
  reads_front : (records : List Record) → AreRequests records → (n : ℕ) → n ≤ length (text_of_records records) → ReadsPrefix (take n (text_of_records records)) records
  reads_front records each n le =
      let p = parts_of shorts nothing_short records each n le in
      let read = reads_text whole most (take n (text_of_records records)) (take p.count records) p.part p.each p.short p.whole in
      record {
        unfaulted = read.1;
        count = p.count;
        requests_are = read.0;
        reaches = p.reaches;
      }

  readable : (bytes : List ℕ) (records : List Record) (synced settled appended written : ℕ) (broken : Bool) → Ends bytes records synced settled appended written broken → Readable bytes synced settled appended written
  readable bytes records synced settled appended written false s =
      let last = text_of_records records ++ s.tail in
      let flat : last ≡ text_of_records records = ap (λ (t : List ℕ). text_of_records records ++ t) s.rest ∙ append-nil (text_of_records records) in
      let all : records ++ [] ≡ records = append-nil records in
      record {
        before = s.before;
        last = last;
        records = records;
        one = [];
        whole = s.whole;
        size = s.size;
        count = s.count;
        at_most_one = omega arith;
        each = rw all s.each;
        prefixes = λ n le. rw (all, flat) (reads_front records (requests_of records s.each) n (omega (arith, le, s.size, ap length flat)));
        durable = λ some n reach. omega (arith, reach, s.durable some, length-append s.before (text_of_records (take settled records)));
      }
  readable bytes records synced settled appended written true s =
      let last = text_of_records records ++ s.tail in
      let front = s.rest in
      let all = records ++ front.record_of ∷ [] in
      let each = AreRecords-push records front.record_of s.each front.is_record in
      let whole_text : text_of_records all ≡ last ++ front.more =
      text_of_records-push records front.record_of ∙ ap (λ (l : List ℕ). text_of_records records ++ l) (sym front.whole) ∙ sym (append_assoc (text_of_records records) s.tail front.more) in
      let inside : (n : ℕ) → n ≤ written → take n last ≡ take n (text_of_records all) =
      λ n le. sym (ap (take n) whole_text ∙ take-append-le n last front.more (omega (arith, le, s.size))) in
      record {
        before = s.before;
        last = last;
        records = records;
        one = front.record_of ∷ [];
        whole = s.whole;
        size = s.size;
        count = s.count;
        at_most_one = omega arith;
        each = each;
        prefixes = λ n le. subst (λ (l : List ℕ). ReadsPrefix l all) (sym (inside n le)) (reads_front all (requests_of all each) n (omega (arith, le, s.size, ap length whole_text, length-append last front.more)));
        durable = λ some n reach. omega (arith, reach, s.durable some, length-append s.before (text_of_records (take settled records)));
      }

  from_told : (told : Option (List ℕ)) (synced settled appended written : ℕ) (broken : Bool) (records : List Record) → IfSome told (λ bytes. Ends bytes records synced settled appended written broken) → IfSome told (λ bytes. Readable bytes synced settled appended written)
  from_told None synced settled appended written broken records s = tt
  from_told (Some bytes) synced settled appended written broken records s = readable bytes records synced settled appended written broken s

  pub readable_told : (log : LogView) → IsLog log → IfSome log.told (λ bytes. Readable bytes log.synced log.settled log.appended log.written)
  readable_told log is = from_told log.told log.synced log.settled log.appended log.written log.broken is.records is.stands
