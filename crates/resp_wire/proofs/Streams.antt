-- The items of a stream, one after the other.
use Rattle.std.proofs.Common.{◌≡◌, ℕ, zero, suc, ◌<◌, ◌≤◌, List, [], ◌∷◌, ◌++◌, length, Some, None, Result, Ok, Err, refl, sym, ap, subst, ◌∙◌, append_assoc, length-append, arith}
use Rattle.std.specs.List.{flat_map, AllByRecursion}
use Rattle.std.proofs.lemmas.List.{append-nil, nil_from_length}
use Rattle.resp_wire.specs.declared.fault.ProtocolFault.{ProtocolFault}
use Rattle.resp_wire.specs.declared.fault.Stop.{Stop}
use Rattle.resp_wire.specs.declared.fault.Stop.TheVariants.{Short, Wrong}
use Rattle.resp_messages.specs.RequestEncoding.{Item, Ask, SkipZero, SkipMinus, IsItem, encoding_of}
use Rattle.resp_wire.specs.Parser.{item_at, head_at, byte_at}
use Rattle.resp_wire.specs.Stream.{prepend_item, split_items, requests_among, items, requests, rest, fault, fault_of}
use Rattle.resp_wire.proofs.Items.{item_takes, item_again}
use Rattle.resp_wire.proofs.Extension.{still_wrong}

-- an item has a byte
encoding_some : (item : Item) → 0 < length (encoding_of item)
encoding_some (Ask arguments) = omega arith
encoding_some SkipZero = omega arith
encoding_some SkipMinus = omega arith

pub rest_shorter : (bytes : List ℕ) (item : Item) (after : List ℕ) → item_at bytes ≡ Ok (item, after) → length after < length bytes
rest_shorter bytes item after e =
    let t = item_takes bytes item after e in
    omega (arith, encoding_some item, ap length t.0, length-append (encoding_of item) after)

pub item_nil : item_at [] ≡ Err Short
unfolding item_at head_at byte_at
item_nil = refl

-- more turns than bytes change nothing
pub same_split : (n m : ℕ) (bytes : List ℕ) → length bytes ≤ n → length bytes ≤ m → split_items n bytes ≡ split_items m bytes
unfolding split_items
same_split zero zero bytes p q = refl
same_split zero (suc m) bytes p q =
    let none : bytes ≡ [] = nil_from_length bytes (omega arith) in
    subst (λ (b : List ℕ). ([], b) ≡ prepend_item (split_items m) b (item_at b)) (sym none) (rw item_nil refl)
same_split (suc n) zero bytes p q =
    let none : bytes ≡ [] = nil_from_length bytes (omega arith) in
    subst (λ (b : List ℕ). prepend_item (split_items n) b (item_at b) ≡ ([], b)) (sym none) (rw item_nil refl)
same_split (suc n) (suc m) bytes p q = go (λ after lt. same_split n m after (omega arith) (omega arith)) (item_at bytes) refl
  where
    go : ((after : List ℕ) → length after < length bytes → split_items n after ≡ split_items m after) → (r : Result (Item × List ℕ) Stop) → item_at bytes ≡ r → prepend_item (split_items n) bytes r ≡ prepend_item (split_items m) bytes r
    go ih (Ok first) e = ap (λ (s : List Item × List ℕ). (first.0 ∷ s.0, s.1)) (ih first.1 (rest_shorter bytes first.0 first.1 e))
    go ih (Err stop) e = refl

split_is : (n : ℕ) (bytes : List ℕ) → length bytes ≤ n → split_items (suc n) bytes ≡ prepend_item (split_items n) bytes (item_at bytes)
unfolding split_items
split_is n bytes le = refl

-- the split of a whole text
abbrev pub split : List ℕ → List Item × List ℕ
split bytes = split_items (length bytes) bytes

pub split_item : (bytes : List ℕ) (item : Item) (after : List ℕ) → item_at bytes ≡ Ok (item, after) → split bytes ≡ (item ∷ (split after).0, (split after).1)
split_item bytes item after e =
    let shorter = rest_shorter bytes item after e in
    let turn : split_items (suc (length bytes)) bytes ≡ prepend_item (split_items (length bytes)) bytes (Ok (item, after)) = split_is (length bytes) bytes (omega arith) ∙ ap (prepend_item (split_items (length bytes)) bytes) e in
    same_split (length bytes) (suc (length bytes)) bytes (omega arith) (omega arith) ∙ turn ∙ ap (λ (s : List Item × List ℕ). (item ∷ s.0, s.1)) (same_split (length bytes) (length after) after (omega arith) (omega arith))

pub split_stop : (bytes : List ℕ) (stop : Stop) → item_at bytes ≡ Err stop → split bytes ≡ ([], bytes)
split_stop bytes stop e =
    same_split (length bytes) (suc (length bytes)) bytes (omega arith) (omega arith) ∙ split_is (length bytes) bytes (omega arith) ∙ ap (prepend_item (split_items (length bytes)) bytes) e

pub requests_among_append : (a b : List Item) → requests_among (a ++ b) ≡ requests_among a ++ requests_among b
requests_among_append [] b = refl
requests_among_append (Ask arguments ∷ a) b = ap (λ (t : List (List (List ℕ))). arguments ∷ t) (requests_among_append a b)
requests_among_append (SkipZero ∷ a) b = requests_among_append a b
requests_among_append (SkipMinus ∷ a) b = requests_among_append a b

-- whole items before a text
pub split_prefix : (prefix : List Item) (bytes : List ℕ) → AllByRecursion IsItem prefix → split (flat_map encoding_of prefix ++ bytes) ≡ (prefix ++ (split bytes).0, (split bytes).1)
split_prefix [] bytes each = refl
split_prefix (item ∷ prefix) bytes each =
    let one : item_at ((encoding_of item ++ flat_map encoding_of prefix) ++ bytes) ≡ Ok (item, flat_map encoding_of prefix ++ bytes) = ap item_at (append_assoc (encoding_of item) (flat_map encoding_of prefix) bytes) ∙ item_again item (flat_map encoding_of prefix ++ bytes) each.0 in
    split_item ((encoding_of item ++ flat_map encoding_of prefix) ++ bytes) item (flat_map encoding_of prefix ++ bytes) one ∙ ap (λ (s : List Item × List ℕ). (item ∷ s.0, s.1)) (split_prefix prefix bytes each.1)

-- a text is its items and its rest, and nothing in the rest is whole
pub record IsSplit (bytes : List ℕ) (found : List Item × List ℕ) : Type 0 where
  pub whole : bytes ≡ flat_map encoding_of found.0 ++ found.1
  pub each : AllByRecursion IsItem found.0
  pub stops : (stop : Stop) × (item_at found.1 ≡ Err stop)

split_one : (bytes : List ℕ) → ((after : List ℕ) → length after < length bytes → IsSplit after (split after)) → (r : Result (Item × List ℕ) Stop) → item_at bytes ≡ r → IsSplit bytes (split bytes)
split_one bytes ih (Err stop) e = rw (split_stop bytes stop e) (record { whole = refl; each = tt; stops = (stop, e) })
split_one bytes ih (Ok first) e =
    let later = ih first.1 (rest_shorter bytes first.0 first.1 e) in
    let t = item_takes bytes first.0 first.1 e in
    rw (split_item bytes first.0 first.1 e) (record {
      whole = t.0 ∙ ap (λ (x : List ℕ). encoding_of first.0 ++ x) later.whole ∙ sym (append_assoc (encoding_of first.0) (flat_map encoding_of (split first.1).0) (split first.1).1);
      each = (t.1, later.each);
      stops = later.stops;
    })

split_within : (n : ℕ) (bytes : List ℕ) → length bytes ≤ n → IsSplit bytes (split bytes)
split_within zero bytes le = split_one bytes (λ after lt. absurd (omega arith)) (item_at bytes) refl
split_within (suc n) bytes le = split_one bytes (λ after lt. split_within n after (omega arith)) (item_at bytes) refl

pub split_whole : (bytes : List ℕ) → IsSplit bytes (split bytes)
split_whole bytes = split_within (length bytes) bytes (omega arith)

-- the law of the cut
pub split_cut : (a b : List ℕ) → split (a ++ b) ≡ ((split a).0 ++ (split ((split a).1 ++ b)).0, (split ((split a).1 ++ b)).1)
split_cut a b =
    let s = split_whole a in
    ap split (ap (λ (x : List ℕ). x ++ b) s.whole ∙ append_assoc (flat_map encoding_of (split a).0) (split a).1 b) ∙ split_prefix (split a).0 ((split a).1 ++ b) s.each

pub items_cut : (a b : List ℕ) → items (a ++ b) ≡ items a ++ items (rest a ++ b)
unfolding items rest
items_cut a b = ap (λ (s : List Item × List ℕ). s.0) (split_cut a b)

pub rest_cut : (a b : List ℕ) → rest (a ++ b) ≡ rest (rest a ++ b)
unfolding rest
rest_cut a b = ap (λ (s : List Item × List ℕ). s.1) (split_cut a b)

pub requests_cut : (a b : List ℕ) → requests (a ++ b) ≡ requests a ++ requests (rest a ++ b)
unfolding requests
requests_cut a b = ap requests_among (items_cut a b) ∙ requests_among_append (items a) (items (rest a ++ b))

pub fault_cut : (a b : List ℕ) → fault (a ++ b) ≡ fault (rest a ++ b)
unfolding fault
fault_cut a b = ap (λ (r : List ℕ). fault_of (item_at r)) (rest_cut a b)

-- a fault stays the fault, whatever comes
pub fault_stays : (a b : List ℕ) (f : ProtocolFault) → fault a ≡ Some f → (requests (a ++ b) ≡ requests a) × (fault (a ++ b) ≡ Some f)
unfolding fault requests items rest
fault_stays a b f e =
    let s = split_whole a in
    go s.stops.0 s.stops.1
  where
    go : (stop : Stop) → item_at (split a).1 ≡ Err stop → (requests (a ++ b) ≡ requests a) × (fault (a ++ b) ≡ Some f)
    go Short is = absurd (let none : fault_of (item_at (split a).1) ≡ None = ap fault_of is in cc)
    go (Wrong g) is =
        let more = split_stop ((split a).1 ++ b) (Wrong g) (still_wrong (split a).1 b g is) in
        let all : split (a ++ b) ≡ ((split a).0 ++ [], (split a).1 ++ b) = split_cut a b ∙ ap (λ (x : List Item × List ℕ). ((split a).0 ++ x.0, x.1)) more in
        let same : g ≡ f = let here : fault_of (item_at (split a).1) ≡ Some g = ap fault_of is in cc in (
          ap (λ (x : List Item × List ℕ). requests_among x.0) all ∙ ap requests_among (append-nil (split a).0),
          ap (λ (x : List Item × List ℕ). fault_of (item_at x.1)) all ∙ ap fault_of (still_wrong (split a).1 b g is) ∙ ap Some same,
        )

-- one more piece: what was given and what is held stay those of all that was fed
pub goes_on : (fed held piece : List ℕ) (given : List (List (List ℕ))) → requests fed ≡ given ++ requests held → rest fed ≡ rest held → (requests (fed ++ piece) ≡ given ++ requests (held ++ piece)) × (rest (fed ++ piece) ≡ rest (held ++ piece))
goes_on fed held piece given same left =
    let a = requests_cut fed piece in
    let b = requests_cut held piece in
    let c : requests (rest fed ++ piece) ≡ requests (rest held ++ piece) = ap (λ (r : List ℕ). requests (r ++ piece)) left in
    let d : requests (fed ++ piece) ≡ (given ++ requests held) ++ requests (rest held ++ piece) = a ∙ ap (λ (x : List (List (List ℕ))). x ++ requests (rest fed ++ piece)) same ∙ ap (λ (x : List (List (List ℕ))). (given ++ requests held) ++ x) c in (
      d ∙ append_assoc given (requests held) (requests (rest held ++ piece)) ∙ ap (λ (x : List (List (List ℕ))). given ++ x) (sym b),
      rest_cut fed piece ∙ ap (λ (r : List ℕ). rest (r ++ piece)) left ∙ sym (rest_cut held piece),
    )
