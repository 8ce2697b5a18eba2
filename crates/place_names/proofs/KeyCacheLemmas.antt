-- What a cache of keys says stays so while more names become known.
use Rattle.std.proofs.Common.{◌≡◌, ◌≢◌, ◌⊎◌, inl, inr, ℕ, List, sym, subst, ap, ◌∙◌}
use Rattle.std.specs.declared.option.Option.{Option}
use Rattle.place_names.specs.declared.key_cache.MetKey.{MetKey}
use Rattle.place_names.specs.LookupCaches.{Says, IsMet, AllMet, HasHash, AllHashed}
use Rattle.place_names.specs.Naming.{Naming, NotesView, NamingGrows, BearsOther, IsPlace, Learns, hash_from, name_at_place}
use Rattle.place_names.proofs.PlaceLemmas.{place_grows, same_some}

pub met_grows : (old new : Naming) (slots : List (Option MetKey)) → NamingGrows old new → AllMet old slots → AllMet new slots
met_grows old new slots g met p says = let m = met p says in (m.0, place_grows old new m.0 p g m.1)

-- one slot more
pub met_more : (known : Naming) (old new : List (Option MetKey)) (p : ℕ) → IsMet known p → ((other : ℕ) → Says new other → Says old other ⊎ (other ≡ p)) → AllMet known old → AllMet known new
met_more known old new p here more met other says = elim (more other says) [ inl before ↦ met other before | inr same ↦ subst (IsMet known) (sym same) here ]

-- the place that was met bears the name that it bore
pub recalled : (old new : Naming) (p : ℕ) (name key : List ℕ) → IsMet old p → Learns old new p name → name ≡ key → IsPlace new key p
recalled old new p name key met learns is =
    let place = place_grows old new met.0 p learns.grows met.1 in
    subst (λ (k : List ℕ). IsPlace new k p) (same_some met.0 name (name_at_place new p) place.own learns.here ∙ is) place

-- the hashes that are kept stay right
pub hashed_grows : (old new : Naming) (hashes : List ℕ) → NamingGrows old new → AllHashed old hashes → AllHashed new hashes
hashed_grows old new hashes g hashed p some =
    let h = hashed p some in
    record { name = h.name; here = g.same p h.name h.here; hash_is = h.hash_is }

-- what the cache of keys says and the hashes that are kept, of the same names
pub both_grow : (old new : Naming) (slots : List (Option MetKey)) (hashes : List ℕ) → NamingGrows old new → AllMet old slots × AllHashed old hashes → AllMet new slots × AllHashed new hashes
both_grow old new slots hashes g both = (met_grows old new slots g both.0, hashed_grows old new hashes g both.1)

-- a name that was learned has its hash
pub learned_hash : (old new : Naming) (p : ℕ) (name : List ℕ) (hash : ℕ) → Learns old new p name → hash ≡ hash_from 7 name → HasHash new p hash
learned_hash old new p name hash learns is = record { name = name; here = learns.here; hash_is = sym is }

-- a name with another hash is another
pub hashes_apart : (known : Naming) (p h hash : ℕ) (key : List ℕ) → HasHash known p h → h ≢ hash → hash_from 7 key ≡ hash → BearsOther known key p
hashes_apart known p h hash key has other is = (has.name, has.here, λ same. other (sym has.hash_is ∙ ap (hash_from 7) same ∙ is))

-- the same of the same names
pub both_same : (old new : NotesView) (slots : List (Option MetKey)) (hashes : List ℕ) → new ≡ old → AllMet old.known slots × AllHashed old.known hashes → AllMet new.known slots × AllHashed new.known hashes
both_same old new slots hashes same both = subst (λ (v : NotesView). AllMet v.known slots × AllHashed v.known hashes) (sym same) both

pub both_known : (old new : Naming) (slots : List (Option MetKey)) (hashes : List ℕ) → new ≡ old → AllMet old slots × AllHashed old hashes → AllMet new slots × AllHashed new hashes
both_known old new slots hashes same both = subst (λ (n : Naming). AllMet n slots × AllHashed n hashes) (sym same) both
