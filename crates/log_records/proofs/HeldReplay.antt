-- The steps of a reload over what a decoder holds.
use Rattle.std.proofs.Common.{◌≡◌, ℕ, ◌+◌, ◌-◌, ◌<◌, List, [], ◌∷◌, ◌++◌, length, refl, sym, ◌∙◌, ap, subst, arith, append_assoc, length-append, Option, None, Some, Result, true, false, Ok, Err}
use Rattle.std.proofs.lemmas.List.{append-nil, append_cancel_left}
use Rattle.std.proofs.lemmas.Grind.{flat_map-append}
use Rattle.std.specs.List.{flat_map, AllByRecursion}
use Rattle.resp_wire.specs.declared.fault.ProtocolFault.{ProtocolFault}
use Rattle.resp_wire.specs.declared.fault.Stop.{Stop}
use Rattle.resp_wire.specs.declared.fault.Stop.TheVariants.{Short, Wrong}
use Rattle.resp_wire.specs.RequestEncoding.{Item, Ask, SkipZero, SkipMinus, IsItem, IsSkip, IsRequest, request, encoding_of}
use Rattle.resp_wire.specs.Parser.{item_at, head_at, byte_at}
use Rattle.resp_wire.specs.Stream.{fault_of, split_items, requests_among, items, requests, rest, fault}
use Rattle.resp_wire.specs.DecoderView.{DecoderView, Gave, Waits}
use Rattle.zset_core.specs.SetsByKey.{World}
use Rattle.log_records.specs.Records.{Record}
use Rattle.log_records.specs.Replay.{replay, replay_from, names_version, is_header, version_after, count_from}
use Rattle.log_records.specs.declared.version.Version.{Version}
use Rattle.log_records.specs.ReloadSteps.{Takes}
use Rattle.log_records.specs.ReloadOutcome.{Replayed, ReloadHolds, IsLess, AllReplayed, IsLoaded, FaultAt, version_number}
use Rattle.log_records.specs.declared.reload_outcome.Loaded.{Loaded}
use Rattle.log_records.specs.declared.reload_outcome.ReloadFault.TheVariants.{NoMemory, Damaged, NotACommand, UnknownVersion}
use Rattle.log_records.proofs.RecordTexts.{requests_among-append}
use Rattle.log_records.proofs.ReplayLemmas.{replay-append, version_after-append, count-append}

nothing_asked : requests [] ≡ []
unfolding requests items split_items
nothing_asked = refl

nothing_left : rest [] ≡ []
unfolding rest split_items
nothing_left = refl

nothing_whole : items [] ≡ []
unfolding items split_items
nothing_whole = refl

nothing_wrong : fault [] ≡ None
unfolding fault rest split_items item_at head_at byte_at
nothing_wrong = refl

asks : (bytes : List ℕ) (others : List Item) → items bytes ≡ others → requests bytes ≡ requests_among others
unfolding requests
asks bytes others is = ap requests_among is

wrong_at : (bytes : List ℕ) (f : ProtocolFault) → fault bytes ≡ Some f → fault_of (item_at (rest bytes)) ≡ Some f
unfolding fault
wrong_at bytes f is = is

wrong_of : {X : Type 0} (r : Result X Stop) (f : ProtocolFault) → fault_of r ≡ Some f → r ≡ Err (Wrong f)
wrong_of (Ok x) f is = absurd (let no : None ≡ Some f = is in cc)
wrong_of (Err Short) f is = absurd (let no : None ≡ Some f = is in cc)
wrong_of (Err (Wrong e)) f is = ap (λ (g : ProtocolFault). Err (Wrong g)) (let same : e ≡ f = cc in same)

requests_among-skips : (skips : List Item) → AllByRecursion IsSkip skips → requests_among skips ≡ []
requests_among-skips [] each = refl
requests_among-skips (Ask words ∷ skips) each = absurd each.0
requests_among-skips (SkipZero ∷ skips) each = requests_among-skips skips each.1
requests_among-skips (SkipMinus ∷ skips) each = requests_among-skips skips each.1

-- what stands behind others is an item as they are
behind : (before : List Item) (item : Item) (more : List Item) → AllByRecursion IsItem (before ++ item ∷ more) → IsItem item
behind [] item more each = each.0
behind (x ∷ before) item more each = behind before item more each.1

skips_are_items : (skips : List Item) → AllByRecursion IsSkip skips → AllByRecursion IsItem skips
skips_are_items [] each = tt
skips_are_items (Ask words ∷ skips) each = absurd each.0
skips_are_items (SkipZero ∷ skips) each = (tt, skips_are_items skips each.1)
skips_are_items (SkipMinus ∷ skips) each = (tt, skips_are_items skips each.1)

items_push : (skips : List Item) (words : Record) → AllByRecursion IsItem skips → IsRequest words → AllByRecursion IsItem (skips ++ Ask words ∷ [])
items_push [] words each is = (is, tt)
items_push (item ∷ skips) words each is = (each.0, items_push skips words each.1 is)

pub replayed_start : (start : World) → ReloadHolds start [] (record { held = []; taken = 0; fault = None }) start 0 None
replayed_start start = record {
  unfaulted = refl;
  replayed = record {
    front = [];
    bytes_are = refl;
    at_is = refl;
    ends = nothing_left;
    replayed = ap (replay start) nothing_asked;
    count_is = ap (count_from None) (sym nothing_asked);
    version_is = ap (version_after None) (sym nothing_asked);
  };
}

pub less_nothing : IsLess []
less_nothing = record { none = nothing_asked; all = nothing_left; unfaulted = nothing_wrong }

-- the same, where its numbers and the bytes behind are written another way
replayed_at : (start : World) (bytes : List ℕ) (at at' : ℕ) (behind behind' : List ℕ) (world : World) (count count' : ℕ) (version version' : Option Version) → at ≡ at' → behind ≡ behind' → count ≡ count' → version ≡ version'
    → Replayed start bytes at behind world count version → Replayed start bytes at' behind' world count' version'
replayed_at start bytes at at' behind behind' world count count' version version' same_at same_behind same_count same_version r = record {
  front = r.front;
  bytes_are = r.bytes_are ∙ ap (λ (l : List ℕ). r.front ++ l) same_behind;
  at_is = r.at_is ∙ same_at;
  ends = r.ends;
  replayed = r.replayed;
  count_is = sym same_count ∙ r.count_is;
  version_is = sym same_version ∙ r.version_is;
}

-- one piece more is held
pub holds_more : (start : World) (bytes piece : List ℕ) (old new : DecoderView) (world : World) (count : ℕ) (version : Option Version) → new ≡ record { held = old.held ++ piece; taken = old.taken; fault = None } → ReloadHolds start bytes old world count version → ReloadHolds start (bytes ++ piece) new world count version
holds_more start bytes piece old new world count version is h =
    subst (λ (w : DecoderView). ReloadHolds start (bytes ++ piece) w world count version) (sym is) (record {
      unfaulted = refl;
      replayed = record {
        front = h.replayed.front;
        bytes_are = ap (λ (b : List ℕ). b ++ piece) h.replayed.bytes_are ∙ append_assoc h.replayed.front old.held piece;
        at_is = h.replayed.at_is;
        ends = h.replayed.ends;
        replayed = h.replayed.replayed;
        count_is = h.replayed.count_is;
        version_is = h.replayed.version_is;
      };
    })

-- a request took a byte or more
pub gave_taken : (old new : DecoderView) (words : Record) → Gave old new words → new.taken + length new.held ≡ old.taken + length old.held → old.taken < new.taken
gave_taken old new words gave bytes =
    omega (arith, bytes, ap length gave.text, length-append (flat_map encoding_of gave.skips) (request words ++ new.held), length-append (request words) new.held)

-- a piece found no room
pub no_room : (start : World) (bytes piece : List ℕ) (wire : DecoderView) (world : World) (count : ℕ) (version : Option Version) → ReloadHolds start bytes wire world count version → FaultAt NoMemory start (bytes ++ piece) world
no_room start bytes piece wire world count version h = (
  wire.taken,
  wire.held ++ piece,
  count,
  version,
  (holds_more start bytes piece wire (record { held = wire.held ++ piece; taken = wire.taken; fault = None }) world count version refl h).replayed,
)

module _ (whole : (text : List ℕ) → (text ≡ flat_map encoding_of (items text) ++ rest text) × AllByRecursion IsItem (items text))
    (most : (others : List Item) (more : List ℕ) → AllByRecursion IsItem others → items (flat_map encoding_of others ++ more) ≡ others ++ items more)
    (cut_requests : (a b : List ℕ) → requests (a ++ b) ≡ requests a ++ requests (rest a ++ b))
    (cut_rest : (a b : List ℕ) → rest (a ++ b) ≡ rest (rest a ++ b))
    (cut_fault : (a b : List ℕ) → fault (a ++ b) ≡ fault (rest a ++ b)) where
  -- a text of items alone
  items_whole : (others : List Item) → AllByRecursion IsItem others → items (flat_map encoding_of others) ≡ others
  items_whole others each =
      ap items (sym (append-nil (flat_map encoding_of others))) ∙ most others [] each ∙ ap (λ (l : List Item). others ++ l) nothing_whole ∙ append-nil others

  rest_whole : (others : List Item) → AllByRecursion IsItem others → rest (flat_map encoding_of others) ≡ []
  rest_whole others each =
      let text = flat_map encoding_of others in
      let split : text ++ [] ≡ text ++ rest text =
      append-nil text ∙ (whole text).0 ∙ ap (λ (l : List Item). flat_map encoding_of l ++ rest text) (items_whole others each) in
      sym (append_cancel_left text [] (rest text) split)

  -- whole records and skips, and then items alone
  replayed_on : (start : World) (bytes : List ℕ) (at : ℕ) (held behind : List ℕ) (world next : World) (count : ℕ) (version : Option Version) (others : List Item) → Replayed start bytes at held world count version → AllByRecursion IsItem others
      → held ≡ flat_map encoding_of others ++ behind → replay_from version world (requests_among others) ≡ Some next
      → Replayed start bytes (at + length (flat_map encoding_of others)) behind next (count + count_from version (requests_among others)) (version_after version (requests_among others))
  replayed_on start bytes at held behind world next count version others r each is leads =
      let text = flat_map encoding_of others in
      let joined : rest r.front ++ text ≡ text = ap (λ (l : List ℕ). l ++ text) r.ends in
      let asks_all : requests (r.front ++ text) ≡ requests r.front ++ requests_among others =
      cut_requests r.front text ∙ ap (λ (l : List ℕ). requests r.front ++ requests l) joined ∙ ap (λ (l : List Record). requests r.front ++ l) (asks text others (items_whole others each)) in
      let before = version_after None (requests r.front) in
      record {
        front = r.front ++ text;
        bytes_are = r.bytes_are ∙ ap (λ (l : List ℕ). r.front ++ l) is ∙ sym (append_assoc r.front text behind);
        at_is = length-append r.front text ∙ ap (λ n. n + length text) r.at_is;
        ends = cut_rest r.front text ∙ ap rest joined ∙ rest_whole others each;
        replayed = ap (replay start) asks_all ∙ replay-append None start (requests r.front) (requests_among others) world r.replayed ∙ ap (λ (v : Option Version). replay_from v world (requests_among others)) (sym r.version_is) ∙ leads;
        count_is = ap (λ n. n + count_from version (requests_among others)) r.count_is ∙ ap (λ (v : Option Version). count_from None (requests r.front) + count_from v (requests_among others)) r.version_is
            ∙ sym (count-append None (requests r.front) (requests_among others)) ∙ ap (count_from None) (sym asks_all);
        version_is = ap (λ (v : Option Version). version_after v (requests_among others)) r.version_is ∙ sym (version_after-append None (requests r.front) (requests_among others)) ∙ ap (version_after None) (sym asks_all);
      }

  -- no record, no change
  none_replays : (version : Option Version) (world : World) → replay_from version world [] ≡ Some world
  none_replays None world = refl
  none_replays (Some version) world = refl

  none_counts : (version : Option Version) → count_from version [] ≡ 0
  none_counts None = refl
  none_counts (Some version) = refl

  none_tells : (version : Option Version) → version_after version [] ≡ version
  none_tells None = refl
  none_tells (Some version) = refl

  module _ (start : World) (bytes : List ℕ) (old new : DecoderView) (world : World) (count : ℕ) (version : Option Version) (h : ReloadHolds start bytes old world count version) (bytes_stay : new.taken + length new.held ≡ old.taken + length old.held) where
    -- skips alone were passed
    skipped : (others : List Item) (behind : List ℕ) → AllByRecursion IsItem others → old.held ≡ flat_map encoding_of others ++ behind → requests_among others ≡ []
        → Replayed start bytes (old.taken + length (flat_map encoding_of others)) behind world count version
    skipped others behind each is none =
        replayed_at start bytes _ _ behind behind world _ count _ version refl refl
        (omega (arith, ap (count_from version) none, none_counts version))
        (ap (version_after version) none ∙ none_tells version)
        (replayed_on start bytes old.taken old.held behind world world count version others h.replayed each is (ap (replay_from version world) none ∙ none_replays version world))

    -- the skips before what is no whole record were taken off
    waits_replayed : Waits old new → Replayed start bytes new.taken new.held world count version
    waits_replayed w =
        let others = items old.held in
        let text = (whole old.held).0 in
        let none : requests_among others ≡ [] = sym (asks old.held others refl) ∙ w.none in
        replayed_at start bytes _ new.taken _ new.held world count count version version
        (omega (arith, bytes_stay, ap length w.held_is, ap length text, length-append (flat_map encoding_of others) (rest old.held)))
        (sym w.held_is) refl refl
        (skipped others (rest old.held) (whole old.held).1 text none)

    -- no record is whole
    pub waits : Waits old new → fault old.held ≡ None → new.fault ≡ None → ReloadHolds start bytes new world count version × IsLess new.held
    waits w unfaulted good =
        let held = old.held in
        let flat : held ++ [] ≡ held = append-nil held in
        let flat_rest : rest held ++ [] ≡ rest held = append-nil (rest held) in
        let asks_none : requests held ++ requests (rest held ++ []) ≡ [] = sym (cut_requests held []) ∙ ap requests flat ∙ w.none in (
          record { unfaulted = good; replayed = waits_replayed w },
          subst IsLess (sym w.held_is) (record {
            none = ap requests (sym flat_rest) ∙ ap (λ (l : List Record). l ++ requests (rest held ++ [])) (sym w.none) ∙ asks_none;
            all = ap rest (sym flat_rest) ∙ sym (cut_rest held []) ∙ ap rest flat;
            unfaulted = ap fault (sym flat_rest) ∙ sym (cut_fault held []) ∙ ap fault flat ∙ unfaulted;
          }),
        )

    -- the next record has a wrong byte
    pub damaged : (f : ProtocolFault) → Waits old new → fault old.held ≡ Some f → FaultAt (Damaged new.taken) start bytes world
    damaged f w wrong =
        (new.held, count, version, f, waits_replayed w, ap item_at w.held_is ∙ wrong_of (item_at (rest old.held)) f (wrong_at old.held f wrong))

    module _ (words : Record) (gave : Gave old new words) where
      is_request : IsRequest words
      is_request = behind gave.skips (Ask words) (items new.held) (subst (AllByRecursion IsItem) gave.first (whole old.held).1)

      each_skip : AllByRecursion IsItem gave.skips
      each_skip = skips_are_items gave.skips gave.skipped

      text_is : flat_map encoding_of (gave.skips ++ Ask words ∷ []) ≡ flat_map encoding_of gave.skips ++ request words
      text_is = flat_map-append encoding_of gave.skips (Ask words ∷ []) ∙ ap (λ (l : List ℕ). flat_map encoding_of gave.skips ++ l) (append-nil (request words))

      asks_one : requests_among (gave.skips ++ Ask words ∷ []) ≡ words ∷ []
      asks_one = requests_among-append gave.skips (Ask words ∷ []) ∙ ap (λ (l : List Record). l ++ words ∷ []) (requests_among-skips gave.skips gave.skipped)

      sizes : old.taken + (length (flat_map encoding_of gave.skips) + length (request words)) ≡ new.taken
      sizes = omega (arith, bytes_stay, ap length gave.text, length-append (flat_map encoding_of gave.skips) (request words ++ new.held), length-append (request words) new.held)

      -- a record was taken
      pub gives : (next : World) (count' : ℕ) (version' : Option Version) → new.fault ≡ None → Takes version version' count count' world next words → ReloadHolds start bytes new next count' version'
      gives next count' version' good takes =
          let others = gave.skips ++ Ask words ∷ [] in
          let r = replayed_on start bytes old.taken old.held new.held world next count version others h.replayed (items_push gave.skips words each_skip is_request)
          (gave.text ∙ sym (append_assoc (flat_map encoding_of gave.skips) (request words) new.held) ∙ ap (λ (l : List ℕ). l ++ new.held) (sym text_is))
          (ap (replay_from version world) asks_one ∙ takes.replayed) in
          record {
            unfaulted = good;
            replayed =
                replayed_at start bytes _ new.taken _ new.held next _ count' _ version'
                (omega (arith, sizes, ap length text_is, length-append (flat_map encoding_of gave.skips) (request words)))
                refl
                (ap (λ (l : List Record). count + count_from version l) asks_one ∙ sym takes.count)
                (ap (version_after version) asks_one ∙ sym takes.version)
                r;
          }

      -- where the record begins
      before_it : (at : ℕ) → at + length (request words) ≡ new.taken → Replayed start bytes at (request words ++ new.held) world count version
      before_it at is_at =
          replayed_at start bytes _ at _ (request words ++ new.held) world count count version version
          (omega (arith, sizes, is_at)) refl refl refl
          (skipped gave.skips (request words ++ new.held) each_skip gave.text (requests_among-skips gave.skips gave.skipped))

      -- a record is no command: it stands behind the skips
      pub no_command : (size : ℕ) (world' : World) → size ≡ length (request words) → world' ≡ world → (replay_from version world (words ∷ []) ≡ None) × (version ≡ None → names_version words ≡ false) → FaultAt (NotACommand (new.taken - size)) start bytes world'
      no_command size world' is_size same refused =
          subst (λ (w : World). FaultAt (NotACommand (new.taken - size)) start bytes w) (sym same) (
            request words ++ new.held,
            count,
            version,
            before_it (new.taken - size) (omega (arith, sizes, is_size)),
            record { words = words; more = new.held; is_request = is_request; bytes_are = refl; refused = refused.0; unnamed = refused.1 },
          )

      -- it names another version, and is the first one
      pub unknown : (world' : World) → world' ≡ world → version ≡ None → names_version words ≡ true → is_header words ≡ false → FaultAt UnknownVersion start bytes world'
      unknown world' same first names other =
          let at = new.taken - length (request words) in
          let r = before_it at (omega (arith, sizes)) in
          subst (λ (w : World). FaultAt UnknownVersion start bytes w) (sym same) (
            at,
            request words ++ new.held,
            replayed_at start bytes at at (request words ++ new.held) (request words ++ new.held) world count 0 version None refl refl (r.count_is ∙ first_of (requests r.front) (sym first ∙ r.version_is)) first r,
            record { words = words; more = new.held; is_request = is_request; bytes_are = refl; names = names; unknown = other },
          )
        where
          first_of : (records : List Record) → None ≡ version_after None records → count_from None records ≡ 0
          first_of [] e = refl
          first_of (r ∷ records) e = absurd (let no : ⊥ = cc in no)

-- what a reload has done between two reads
module _ (cut_requests : (a b : List ℕ) → requests (a ++ b) ≡ requests a ++ requests (rest a ++ b))
    (cut_rest : (a b : List ℕ) → rest (a ++ b) ≡ rest (rest a ++ b))
    (cut_fault : (a b : List ℕ) → fault (a ++ b) ≡ fault (rest a ++ b))
    (start : World) (bytes : List ℕ) (wire : DecoderView) (world : World) (count : ℕ) (version : Option Version) (h : ReloadHolds start bytes wire world count version) (less : IsLess wire.held) where
  joined : rest h.replayed.front ++ wire.held ≡ wire.held
  joined = ap (λ (l : List ℕ). l ++ wire.held) h.replayed.ends

  asks_all : requests bytes ≡ requests h.replayed.front
  asks_all =
      ap requests h.replayed.bytes_are ∙ cut_requests h.replayed.front wire.held
      ∙ ap (λ (l : List ℕ). requests h.replayed.front ++ requests l) joined
      ∙ ap (λ (l : List Record). requests h.replayed.front ++ l) less.none ∙ append-nil (requests h.replayed.front)

  rest_all : rest bytes ≡ wire.held
  rest_all = ap rest h.replayed.bytes_are ∙ cut_rest h.replayed.front wire.held ∙ ap rest joined ∙ less.all

  pub all_replayed : AllReplayed start bytes world
  all_replayed = record {
    unfaulted = ap fault h.replayed.bytes_are ∙ cut_fault h.replayed.front wire.held ∙ ap fault joined ∙ less.unfaulted;
    replayed = ap (replay start) asks_all ∙ h.replayed.replayed;
  }

  -- the file has ended
  pub is_loaded : (loaded : Loaded) → loaded.records ≡ count → loaded.whole ≡ wire.taken → loaded.torn ≡ length wire.held → loaded.version ≡ version_number version → IsLoaded start bytes loaded world
  is_loaded loaded records whole torn number = record {
    all = all_replayed;
    records_are = records ∙ h.replayed.count_is ∙ ap (count_from None) (sym asks_all);
    version_is = number ∙ ap version_number h.replayed.version_is ∙ ap (λ (l : List Record). version_number (version_after None l)) (sym asks_all);
    torn_is = torn ∙ ap length (sym rest_all);
    whole_is = omega (arith, whole, torn, h.replayed.at_is, ap length h.replayed.bytes_are, length-append h.replayed.front wire.held);
  }
