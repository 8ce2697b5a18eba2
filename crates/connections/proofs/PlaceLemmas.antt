-- What stands at a place, once another value was put there or taken out.
use Rattle.std.proofs.Common.{◌≡◌, ℕ, ◌⊎◌, inl, inr, List, [], ◌∷◌, ◌++◌, map, Option, Some, None, slice_set, slice_get, option_map, zero, suc, refl, sym, ◌∙◌, ap, subst}
use Rattle.std.proofs.lemmas.Option.{none-some, same_Some, slice_get-map}
use Rattle.connections.specs.Places.{ValueIsAt, IsGrown, MayPut, EachWas, Each}

module _ {V : Type 0} where
  -- behind a value that was put, each other one stood there before
  pub at_set : (slots : List (Option V)) (place other : ℕ) (new value : V) → ValueIsAt (slice_set slots place (Some new)) other value → ((other ≡ place) × (value ≡ new)) ⊎ ValueIsAt slots other value
  at_set [] place other new value at = inr at
  at_set (slot ∷ slots) zero zero new value at = inl (refl, sym (same_Some new value (same_Some (Some new) (Some value) at)))
  at_set (slot ∷ slots) zero (suc other) new value at = inr at
  at_set (slot ∷ slots) (suc place) zero new value at = inr at
  at_set (slot ∷ slots) (suc place) (suc other) new value at = behind (at_set slots place other new value at)
    where
      behind : ((other ≡ place) × (value ≡ new)) ⊎ ValueIsAt slots other value → ((suc other ≡ suc place) × (value ≡ new)) ⊎ ValueIsAt slots other value
      behind (inl (same, is)) = inl (ap suc same, is)
      behind (inr before) = inr before

  -- what stands somewhere once a place was emptied stood there before
  pub at_emptied : (slots : List (Option V)) (place other : ℕ) (value : V) → ValueIsAt (slice_set slots place None) other value → ValueIsAt slots other value
  at_emptied [] place other value at = at
  at_emptied (slot ∷ slots) zero zero value at = absurd (none-some value (same_Some None (Some value) at))
  at_emptied (slot ∷ slots) zero (suc other) value at = at
  at_emptied (slot ∷ slots) (suc place) zero value at = at
  at_emptied (slot ∷ slots) (suc place) (suc other) value at = at_emptied slots place other value at

  -- what stands somewhere once there is a place more stood there before
  pub at_longer : (slots : List (Option V)) (other : ℕ) (value : V) → ValueIsAt (slots ++ None ∷ []) other value → ValueIsAt slots other value
  at_longer [] zero value at = absurd (none-some value (same_Some None (Some value) at))
  at_longer [] (suc other) value at = at
  at_longer (slot ∷ slots) zero value at = at
  at_longer (slot ∷ slots) (suc other) value at = at_longer slots other value at

  pub at_grown : (old new : List (Option V)) → IsGrown old new → (other : ℕ) (value : V) → ValueIsAt new other value → ValueIsAt old other value
  at_grown old new (inl same) other value at = subst (λ (slots : List (Option V)). ValueIsAt slots other value) same at
  at_grown old new (inr longer) other value at = at_longer old other value (subst (λ (slots : List (Option V)). ValueIsAt slots other value) longer at)

  -- a place that was emptied and filled anew, and one that was only filled
  pub set_again : (slots : List (Option V)) (place : ℕ) (first second : Option V) → slice_set (slice_set slots place first) place second ≡ slice_set slots place second
  set_again [] place first second = refl
  set_again (slot ∷ slots) zero first second = refl
  set_again (slot ∷ slots) (suc place) first second = ap (λ (rest : List (Option V)). slot ∷ rest) (set_again slots place first second)

  -- the same put where it stood
  pub set_same : (slots : List (Option V)) (place : ℕ) (slot : Option V) → slice_get slots place ≡ Some slot → slice_set slots place slot ≡ slots
  set_same [] place slot at = refl
  set_same (first ∷ slots) zero slot at = ap (λ (s : Option V). s ∷ slots) (sym (same_Some first slot at))
  set_same (first ∷ slots) (suc place) slot at = ap (λ (rest : List (Option V)). first ∷ rest) (set_same slots place slot at)

  pub was_trans : (first second both : V → V → Type 0) → ((a b c : V) → first a b → second b c → both a c)
      → (old between new : List (Option V)) → EachWas first old between → EachWas second between new → EachWas both old new
  was_trans first second both joined old between new was then place value at =
      let (middle, at_middle, became) = then place value at in
      let (before, at_before, had_become) = was place middle at_middle in
      (before, at_before, joined before middle value had_become became)

  pub was_so : (first second : V → V → Type 0) → ((before after : V) → first before after → second before after) → (old new : List (Option V)) → EachWas first old new → EachWas second old new
  was_so first second follows old new was place value at =
      let (before, at_before, became) = was place value at in
      (before, at_before, follows before value became)

  pub each_now : (was : V → Type 0) (is : V → Type 0) (became : V → V → Type 0) → ((before value : V) → became before value → was before → is value)
      → (old new : List (Option V)) → EachWas became old new → Each was old → Each is new
  each_now was is became follows old new each all place value at =
      let (before, at_before, has_become) = each place value at in
      follows before value has_become (all place before at_before)

module _ {V W : Type 0} (shown : V → W) where
  -- the values at places, as they are shown
  abbrev pub all_shown : List (Option V) → List (Option W)
  all_shown slots = map (option_map shown) slots

  pub at_shown : (slots : List (Option V)) (place : ℕ) (value : V) → ValueIsAt slots place value → ValueIsAt (all_shown slots) place (shown value)
  at_shown slots place value at = slice_get-map (option_map shown) slots place ∙ ap (option_map (option_map shown)) at

  pub shown_set : (slots : List (Option V)) (place : ℕ) (slot : Option V) → all_shown (slice_set slots place slot) ≡ slice_set (all_shown slots) place (option_map shown slot)
  shown_set [] place slot = refl
  shown_set (first ∷ slots) zero slot = refl
  shown_set (first ∷ slots) (suc place) slot = ap (λ (rest : List (Option W)). option_map shown first ∷ rest) (shown_set slots place slot)

  pub shown_longer : (slots : List (Option V)) → all_shown (slots ++ None ∷ []) ≡ all_shown slots ++ None ∷ []
  shown_longer [] = refl
  shown_longer (first ∷ slots) = ap (λ (rest : List (Option W)). option_map shown first ∷ rest) (shown_longer slots)

  pub shown_grown : (old new : List (Option V)) → IsGrown old new → IsGrown (all_shown old) (all_shown new)
  shown_grown old new (inl same) = inl (ap all_shown same)
  shown_grown old new (inr longer) = inr (ap all_shown longer ∙ shown_longer old)

  pub shown_put : (value : V) (old new : List (Option V)) → MayPut value old new → MayPut (shown value) (all_shown old) (all_shown new)
  shown_put value old new (inl p) = inl (record {
    place = p.place;
    was_free = slice_get-map (option_map shown) old p.place ∙ ap (option_map (option_map shown)) p.was_free;
    put = ap all_shown p.put ∙ shown_set old p.place (Some value);
  })
  shown_put value old new (inr same) = inr (ap all_shown same)

  -- a value was taken out and another one put in its place
  exchanged : (slots : List (Option V)) (place : ℕ) (new : V) → all_shown (slice_set (slice_set slots place None) place (Some new)) ≡ slice_set (all_shown slots) place (Some (shown new))
  exchanged slots place new = ap all_shown (set_again slots place None (Some new)) ∙ shown_set slots place (Some new)

  pub exchanged_alike : (slots : List (Option V)) (place : ℕ) (old new : V) → ValueIsAt slots place old → shown new ≡ shown old → all_shown (slice_set (slice_set slots place None) place (Some new)) ≡ all_shown slots
  exchanged_alike slots place old new at alike =
      exchanged slots place new ∙ ap (λ (w : W). slice_set (all_shown slots) place (Some w)) alike ∙ set_same (all_shown slots) place (Some (shown old)) (at_shown slots place old at)

  -- nothing stood there, and nothing was taken
  pub emptied_alike : (slots : List (Option V)) (place : ℕ) → slice_get slots place ≡ Some None → all_shown (slice_set slots place None) ≡ all_shown slots
  emptied_alike slots place none = ap all_shown (set_same slots place None none)

  module _ (became : W → W → Type 0) (stays : (w : W) → became w w) where
    pub exchanged_was : (slots : List (Option V)) (place : ℕ) (old new : V) → ValueIsAt slots place old → became (shown old) (shown new) → EachWas became (all_shown slots) (all_shown (slice_set (slice_set slots place None) place (Some new)))
    exchanged_was slots place old new at turned other value at_new = by_place (at_set (all_shown slots) place other (shown new) value (subst (λ (ws : List (Option W)). ValueIsAt ws other value) (exchanged slots place new) at_new))
      where
        by_place : ((other ≡ place) × (value ≡ shown new)) ⊎ ValueIsAt (all_shown slots) other value → (before : W) × ValueIsAt (all_shown slots) other before × became before value
        by_place (inl (same, is)) = (shown old, subst (λ (p : ℕ). ValueIsAt (all_shown slots) p (shown old)) (sym same) (at_shown slots place old at), subst (λ (w : W). became (shown old) w) (sym is) turned)
        by_place (inr before) = (value, before, stays value)

    pub emptied_was : (slots : List (Option V)) (place : ℕ) → EachWas became (all_shown slots) (all_shown (slice_set slots place None))
    emptied_was slots place other value at = (value, at_emptied (all_shown slots) place other value (subst (λ (ws : List (Option W)). ValueIsAt ws other value) (shown_set slots place None) at), stays value)

    pub all_stay : (slots : List (Option W)) → EachWas became slots slots
    all_stay slots other value at = (value, at, stays value)
