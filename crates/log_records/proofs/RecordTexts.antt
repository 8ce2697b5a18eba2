-- The text of records, and what a stream holds where it is such a text and the front of one record more.
use Rattle.std.proofs.Common.{◌≡◌, ℕ, zero, suc, List, [], ◌∷◌, ◌++◌, length, map, refl, sym, ◌∙◌, ap, append_assoc, None, Err}
use Rattle.std.proofs.lemmas.List.{append-nil, append_cancel_left}
use Rattle.std.specs.List.{flat_map, AllByRecursion}
use Rattle.resp_wire.specs.declared.fault.Stop.TheVariants.{Short}
use Rattle.resp_wire.specs.RequestEncoding.{Item, Ask, SkipZero, SkipMinus, IsItem, IsRequest, request, encoding_of}
use Rattle.resp_wire.specs.Parser.{item_at, head_at, byte_at}
use Rattle.resp_wire.specs.Stream.{fault_of, prepend_item, split_items, requests_among, items, requests, rest, fault}
use Rattle.log_records.specs.Records.{Record, IsRecord, text_of_records, AreRecords}

pub text_of_records-push : (records : List Record) (one : Record) → text_of_records (records ++ one ∷ []) ≡ text_of_records records ++ request one
text_of_records-push [] one = append-nil (request one)
text_of_records-push (first ∷ records) one = ap (λ (l : List ℕ). request first ++ l) (text_of_records-push records one) ∙ sym (append_assoc (request first) (text_of_records records) (request one))

pub AreRecords-push : (records : List Record) (one : Record) → AreRecords records → IsRecord one → AreRecords (records ++ one ∷ [])
AreRecords-push [] one each is = (is, tt)
AreRecords-push (first ∷ records) one each is = (each.0, AreRecords-push records one each.1 is)

-- what is read of a text says of its records that they are requests
abbrev pub AreRequests : List Record → Type 0
AreRequests records = AllByRecursion IsRequest records

pub requests_of : (records : List Record) → AreRecords records → AreRequests records
requests_of [] each = tt
requests_of (first ∷ records) each = (each.0.is_request, requests_of records each.1)

pub items_of : List Record → List Item
items_of records = map Ask records

pub text_of_records-items : (records : List Record) → flat_map encoding_of (items_of records) ≡ text_of_records records
unfolding items_of
text_of_records-items [] = refl
text_of_records-items (first ∷ records) = ap (λ (l : List ℕ). request first ++ l) (text_of_records-items records)

pub items_of-each : (records : List Record) → AreRequests records → AllByRecursion IsItem (items_of records)
unfolding items_of
items_of-each [] each = tt
items_of-each (first ∷ records) each = (each.0, items_of-each records each.1)

pub requests_among-items : (records : List Record) → requests_among (items_of records) ≡ records
unfolding items_of
requests_among-items [] = refl
requests_among-items (first ∷ records) = ap (λ (l : List Record). first ∷ l) (requests_among-items records)

pub requests_among-append : (a b : List Item) → requests_among (a ++ b) ≡ requests_among a ++ requests_among b
requests_among-append [] b = refl
requests_among-append (Ask words ∷ a) b = ap (λ (l : List Record). words ∷ l) (requests_among-append a b)
requests_among-append (SkipZero ∷ a) b = requests_among-append a b
requests_among-append (SkipMinus ∷ a) b = requests_among-append a b

-- what is no item yet
pub split-short : (n : ℕ) (part : List ℕ) → item_at part ≡ Err Short → split_items n part ≡ ([], part)
unfolding split_items
split-short zero part short = refl
split-short (suc n) part short = ap (prepend_item (split_items n) part) short

items-short : (part : List ℕ) → item_at part ≡ Err Short → items part ≡ []
unfolding items
items-short part short = ap (λ (s : List Item × List ℕ). s.0) (split-short (length part) part short)

pub nothing_short : item_at [] ≡ Err Short
unfolding item_at head_at byte_at
nothing_short = refl

fault_at : (bytes part : List ℕ) → rest bytes ≡ part → item_at part ≡ Err Short → fault bytes ≡ None
unfolding fault
fault_at bytes part is short = ap (λ (l : List ℕ). fault_of (item_at l)) is ∙ ap fault_of short

asks : (bytes : List ℕ) (records : List Record) → items bytes ≡ items_of records → requests bytes ≡ records
unfolding requests
asks bytes records is = ap requests_among is ∙ requests_among-items records

-- the text of records, and behind it what is no item yet
pub reads_text : ((text : List ℕ) → (text ≡ flat_map encoding_of (items text) ++ rest text) × AllByRecursion IsItem (items text))
    → ((others : List Item) (more : List ℕ) → AllByRecursion IsItem others → items (flat_map encoding_of others ++ more) ≡ others ++ items more)
    → (bytes : List ℕ) (records : List Record) (part : List ℕ) → AreRequests records → item_at part ≡ Err Short → bytes ≡ text_of_records records ++ part
    → (requests bytes ≡ records) × (fault bytes ≡ None) × (rest bytes ≡ part)
reads_text whole most bytes records part each short is =
    let spelt : bytes ≡ flat_map encoding_of (items_of records) ++ part = is ∙ ap (λ (l : List ℕ). l ++ part) (sym (text_of_records-items records)) in
    let all : items bytes ≡ items_of records =
    ap items spelt ∙ most (items_of records) part (items_of-each records each)
    ∙ ap (λ (l : List Item). items_of records ++ l) (items-short part short) ∙ append-nil (items_of records) in
    let behind : text_of_records records ++ rest bytes ≡ text_of_records records ++ part =
    ap (λ (l : List ℕ). l ++ rest bytes) (sym (text_of_records-items records))
    ∙ ap (λ (l : List Item). flat_map encoding_of l ++ rest bytes) (sym all)
    ∙ sym (whole bytes).0 ∙ is in
    let left = append_cancel_left (text_of_records records) (rest bytes) part behind in
    (asks bytes records all, fault_at bytes part left short, left)
