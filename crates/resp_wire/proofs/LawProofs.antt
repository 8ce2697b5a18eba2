-- The laws that public functions state.
use Rattle.std.proofs.Common.{◌≡◌, ℕ, List, [], ◌∷◌, ◌++◌, length, Result, Ok, Err, refl, sym, ap, subst, ◌∙◌, append_assoc, length-append, arith}
use Rattle.std.specs.List.{flat_map, AllByRecursion}
use Rattle.std.proofs.lemmas.List.{append-nil}
use Rattle.resp_wire.specs.declared.fault.ProtocolFault.{ProtocolFault}
use Rattle.resp_wire.specs.declared.fault.Stop.{Stop}
use Rattle.resp_wire.specs.declared.fault.Stop.TheVariants.{Short, Wrong}
use Rattle.resp_messages.specs.RequestEncoding.{Item, IsItem, encoding_of}
use Rattle.resp_wire.specs.Parser.{item_at, head_at, byte_at}
use Rattle.resp_wire.specs.Stream.{items, rest}
use Rattle.resp_wire.proofs.Items.{item_again}
use Rattle.resp_wire.proofs.Extension.{still_item, still_wrong}
use Rattle.resp_wire.proofs.Streams.{split_prefix, split_whole}

pub one_item : (a b : Item) (x y : List ℕ) → IsItem a → IsItem b → encoding_of a ++ x ≡ encoding_of b ++ y → (a ≡ b) × (x ≡ y)
one_item a b x y p q e =
    let same = sym (item_again a x p) ∙ ap item_at e ∙ item_again b y q in
    (ap (λ (r : Result (Item × List ℕ) Stop). first a r) same, ap (λ (r : Result (Item × List ℕ) Stop). second x r) same)
  where
    first : Item → Result (Item × List ℕ) Stop → Item
    first d (Ok f) = f.0
    first d (Err s) = d

    second : List ℕ → Result (Item × List ℕ) Stop → List ℕ
    second d (Ok f) = f.1
    second d (Err s) = d

pub none_begins : (text : List ℕ) (f : ProtocolFault) → item_at text ≡ Err (Wrong f) → (item : Item) (x y : List ℕ) → IsItem item → text ++ x ≡ encoding_of item ++ y → ⊥
none_begins text f e item x y is same =
    let one = sym (still_wrong text x f e) ∙ ap item_at same ∙ item_again item y is in
    absurd cc

pub most : (others : List Item) (more : List ℕ) → AllByRecursion IsItem others → items (flat_map encoding_of others ++ more) ≡ others ++ items more
unfolding items
most others more each = ap (λ (s : List Item × List ℕ). s.0) (split_prefix others more each)

pub is_whole : (text : List ℕ) → (text ≡ flat_map encoding_of (items text) ++ rest text) × AllByRecursion IsItem (items text)
unfolding items rest
is_whole text = let s = split_whole text in (s.whole, s.each)

-- the first byte at which a text has a fault
abbrev pub First : List ℕ → ProtocolFault → Type 0
First text f = (prefix : List ℕ) × (b : ℕ) × (more : List ℕ) × (text ≡ prefix ++ b ∷ more) × (item_at prefix ≡ Err Short) × (item_at (prefix ++ b ∷ []) ≡ Err (Wrong f))

-- the prefix is short, and prefix ++ text has the fault
find_first : (prefix text : List ℕ) (f : ProtocolFault) → item_at prefix ≡ Err Short → item_at (prefix ++ text) ≡ Err (Wrong f) → First (prefix ++ text) f
find_first prefix [] f short e = absurd (let n = sym short ∙ ap item_at (sym (append-nil prefix)) ∙ e in cc)
find_first prefix (b ∷ text) f short e = go (λ s. find_first (prefix ++ b ∷ []) text f s) (item_at (prefix ++ b ∷ [])) refl
  where
    regroup : prefix ++ b ∷ text ≡ (prefix ++ b ∷ []) ++ text
    regroup = sym (append_assoc prefix (b ∷ []) text)

    whole : item_at ((prefix ++ b ∷ []) ++ text) ≡ Err (Wrong f)
    whole = ap item_at (sym regroup) ∙ e

    go : (item_at (prefix ++ b ∷ []) ≡ Err Short → item_at ((prefix ++ b ∷ []) ++ text) ≡ Err (Wrong f) → First ((prefix ++ b ∷ []) ++ text) f) → (r : Result (Item × List ℕ) Stop) → item_at (prefix ++ b ∷ []) ≡ r → First (prefix ++ b ∷ text) f
    go later (Ok found) is = absurd (let n = sym (still_item (prefix ++ b ∷ []) text found.0 found.1 is) ∙ whole in cc)
    go later (Err Short) is = subst (λ (t : List ℕ). First t f) (sym regroup) (later is whole)
    go later (Err (Wrong g)) is =
        let n = sym (still_wrong (prefix ++ b ∷ []) text g is) ∙ whole in
        let same : g ≡ f = cc in
        (prefix, b, text, refl, short, is ∙ ap (λ (w : ProtocolFault). Err (Wrong w)) same)

nil_short : item_at [] ≡ Err Short
unfolding item_at head_at byte_at
nil_short = refl

pub first_fault : (text : List ℕ) (f : ProtocolFault) → item_at text ≡ Err (Wrong f) → First text f
first_fault text f e = find_first [] text f nil_short e

-- what an encoding goes beyond is short
pub is_short : (text : List ℕ) (item : Item) (x : ℕ) (more : List ℕ) → IsItem item → text ++ x ∷ more ≡ encoding_of item → item_at text ≡ Err Short
is_short text item x more is same = go (item_at text) refl
  where
    whole : item_at (text ++ x ∷ more) ≡ Ok (item, [])
    whole = ap item_at (same ∙ sym (append-nil (encoding_of item))) ∙ item_again item [] is

    left : Result (Item × List ℕ) Stop → ℕ
    left (Ok f) = length f.1
    left (Err s) = 0

    go : (r : Result (Item × List ℕ) Stop) → item_at text ≡ r → item_at text ≡ Err Short
    go (Ok found) e = absurd (let n = ap left (sym (still_item text (x ∷ more) found.0 found.1 e) ∙ whole) in omega (arith, length-append found.1 (x ∷ more)))
    go (Err Short) e = e
    go (Err (Wrong f)) e = absurd (let n = sym (still_wrong text (x ∷ more) f e) ∙ whole in cc)
