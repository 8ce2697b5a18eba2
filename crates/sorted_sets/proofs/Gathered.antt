-- The places of the members that a draft moves, gathered from those that it noted.
use Rattle.std.proofs.Common.{◌≡◌, ℕ, zero, suc, ◌+◌, ◌<◌, ◌≤◌, ◌||◌, ◌&&◌, not, Bool, true, false, cond, nat_eq, List, [], ◌∷◌, ◌++◌, length, take, set, nat_lt, get_or, refl, sym, ap, subst, ◌∙◌, arith, true≢false, append_assoc, append-nil, length-append, ◌-◌, None}
use Rattle.std.specs.List.{IsDistinct, list_any, range_with_len, swap}
use Rattle.std.specs.Map.{keys_of}
use Rattle.std.specs.Str.{bytes_eq}
use Rattle.std.proofs.lemmas.Bool.Decides.{nat_tests}
use Rattle.std.proofs.lemmas.List.{take_more, take-set-le, length-take-le, get_or_append_left, get_or-append_right, get_or-take}
use Rattle.std.proofs.lemmas.List.FromFn.{length-range_with_len, get_or-range_with_len}
use Rattle.std.specs.FinMap as fin
use Rattle.std.proofs.lemmas.List.Edits.{swapped_from_swap, length-swap, swap_is}
use Rattle.std.proofs.lemmas.List.Folds.{list_any_at, list_any-append}
use Rattle.zset_core.specs.SortedSet.{Members}
use Rattle.sorted_sets.specs.MovedMembers.{differs, moved_names}
use Rattle.sorted_sets.specs.NamesTouchedByPlan.{noted_places, IsLed}
use Rattle.sorted_sets.specs.Plan.{moved_places, IsCounted}
use Rattle.sorted_sets.specs.declared.set.draft.Draft.{Draft}
use Rattle.sorted_sets.specs.MembersWithStagedScores.{Entry, staged_score, members_by, name_at, names_at, same_bytes, IsWaiting, IsWithin}
use Rattle.zset_core.specs.Semantics.{remove_all}
use Rattle.sorted_sets.proofs.Gathering.{get-remove_all}
use Rattle.sorted_sets.proofs.Outlines.{before, has}
use Rattle.sorted_sets.proofs.Effects.{any_place, new_moved, moved-kept, moved-there, moved-more, names_at-push}

-- ---- places in a row
pub IsWithin-append : (n : ℕ) (ps qs : List ℕ) → IsWithin n ps → IsWithin n qs → IsWithin n (ps ++ qs)
IsWithin-append n [] qs a b = b
IsWithin-append n (p ∷ ps) qs a b = (a.0, IsWithin-append n ps qs a.1 b)

pub IsWithin-range : (n a k : ℕ) → a + k ≤ n → IsWithin n (range_with_len a k)
IsWithin-range n a zero h = tt
IsWithin-range n a (suc k) h = (omega (arith, h), IsWithin-range n (a + 1) k (omega (arith, h)))

range_more : (a n : ℕ) → range_with_len a (suc n) ≡ range_with_len a n ++ (a + n) ∷ []
range_more a zero = let same : a ≡ a + zero = omega arith in ap (λ (k : ℕ). k ∷ []) same
range_more a (suc n) =
    let same : (a + 1) + n ≡ a + suc n = omega arith in
    ap (λ (l : List ℕ). a ∷ l) (range_more (a + 1) n) ∙ ap (λ (k : ℕ). a ∷ (range_with_len (a + 1) n ++ k ∷ [])) same

pub in_range : (p a k : ℕ) → a ≤ p → p < a + k → list_any (nat_eq p) (range_with_len a k) ≡ true
in_range p a zero low high = absurd (omega (arith, low, high))
in_range p a (suc k) low high = by (nat_eq p a) refl (λ later. in_range p (a + 1) k later (omega (arith, high)))
  where
    by : (b : Bool) → nat_eq p a ≡ b → (a + 1 ≤ p → list_any (nat_eq p) (range_with_len (a + 1) k) ≡ true) → (b || list_any (nat_eq p) (range_with_len (a + 1) k)) ≡ true
    by true is rest = refl
    by false is rest =
        let later : a + 1 ≤ p = grind (arith, nat_tests) in
        rest later

below_range : (p a k : ℕ) → p < a → list_any (nat_eq p) (range_with_len a k) ≡ false
below_range p a zero h = refl
below_range p a (suc k) h =
    let other : nat_eq p a ≡ false = grind (arith, nat_tests) in
    ap (λ (b : Bool). b || list_any (nat_eq p) (range_with_len (a + 1) k)) other ∙ below_range p (a + 1) k (omega (arith, h))

above_range : (p a k : ℕ) → a + k ≤ p → list_any (nat_eq p) (range_with_len a k) ≡ false
above_range p a zero h = refl
above_range p a (suc k) h =
    let other : nat_eq p a ≡ false = grind (arith, nat_tests) in
    ap (λ (b : Bool). b || list_any (nat_eq p) (range_with_len (a + 1) k)) other ∙ above_range p (a + 1) k (omega (arith, h))

pub names_at-append : (es : List Entry) (ps qs : List ℕ) → names_at es (ps ++ qs) ≡ names_at es ps ++ names_at es qs
names_at-append es [] qs = refl
names_at-append es (p ∷ ps) qs = ap (λ (l : List (List ℕ)). name_at es p ∷ l) (names_at-append es ps qs)

-- the new members in a row move, and each is named once there
pub leading_move : (es : List Entry) (kept n : ℕ) → IsDistinct same_bytes (keys_of es) → kept + n ≤ length es
    → names_at es (range_with_len kept n) ≡ moved_names (before es kept) (members_by staged_score es) (names_at es (range_with_len kept n))
leading_move es kept zero apart h = refl
leading_move es kept (suc n) apart h =
    let p = kept + n in
    let old = before es kept in
    let new = members_by staged_score es in
    let front = names_at es (range_with_len kept n) in
    let was : front ≡ moved_names old new front = leading_move es kept n apart (omega (arith, h)) in
    let more : names_at es (range_with_len kept (suc n)) ≡ front ++ name_at es p ∷ [] = ap (names_at es) (range_more kept n) ∙ names_at-push es (range_with_len kept n) p in
    let inside : p < length es = omega (arith, h) in
    let absent : has front (name_at es p) ≡ false = sym (any_place es (range_with_len kept n) p apart (IsWithin-range (length es) kept n (omega (arith, h))) inside) ∙ above_range p kept n (omega arith) in
    more ∙ ap (λ (l : List (List ℕ)). l ++ name_at es p ∷ []) was
    ∙ sym (ap (moved_names old new) more ∙ moved-more old new front (name_at es p) (new_moved es kept p apart inside (omega arith)) (ap (λ (l : List (List ℕ)). has l (name_at es p)) (sym was) ∙ absent))

-- ---- whether the member at a place is the next that moves
has-append : (a b : List (List ℕ)) (q : List ℕ) → has (a ++ b) q ≡ (has a q || has b q)
has-append a b q = list_any-append (bytes_eq q) a b

pub there_leading : (es : List Entry) (kept leading : ℕ) (others : List ℕ) (p : ℕ) → IsDistinct same_bytes (keys_of es) → kept + leading ≤ length es → kept ≤ p → p < kept + leading
    → has (names_at es (range_with_len kept leading ++ others)) (name_at es p) ≡ true
there_leading es kept leading others p apart h low high =
    ap (λ (l : List (List ℕ)). has l (name_at es p)) (names_at-append es (range_with_len kept leading) others)
    ∙ has-append (names_at es (range_with_len kept leading)) (names_at es others) (name_at es p)
    ∙ ap (λ (b : Bool). b || has (names_at es others) (name_at es p))
    (sym (any_place es (range_with_len kept leading) p apart (IsWithin-range (length es) kept leading h) (omega (arith, h, high))) ∙ in_range p kept leading low high)

flipped : (ps : List ℕ) (p : ℕ) → list_any (λ q. nat_eq q p) ps ≡ list_any (nat_eq p) ps
flipped [] p = refl
flipped (q ∷ ps) p =
    let same : nat_eq q p ≡ nat_eq p q = grind (arith, nat_tests) in
    ap (λ (b : Bool). b || list_any (λ q. nat_eq q p) ps) same ∙ ap (λ (b : Bool). nat_eq p q || b) (flipped ps p)

pub there_others : (es : List Entry) (kept leading : ℕ) (others : List ℕ) (p : ℕ) → IsDistinct same_bytes (keys_of es) → kept + leading ≤ length es → IsWithin (length es) others → p < length es
    → list_any (nat_eq p) (range_with_len kept leading) ≡ false → list_any (λ q. nat_eq q p) others ≡ has (names_at es (range_with_len kept leading ++ others)) (name_at es p)
there_others es kept leading others p apart h within inside outside =
    flipped others p ∙ any_place es others p apart within inside
    ∙ sym (ap (λ (l : List (List ℕ)). has l (name_at es p)) (names_at-append es (range_with_len kept leading) others)
    ∙ has-append (names_at es (range_with_len kept leading)) (names_at es others) (name_at es p)
    ∙ ap (λ (b : Bool). b || has (names_at es others) (name_at es p)) (sym (any_place es (range_with_len kept leading) p apart (IsWithin-range (length es) kept leading h) inside) ∙ outside))

-- a place that does not stand in a row is below it or behind it
pub outside_range : (p a k : ℕ) → (a ≤ p → a + k ≤ p) → list_any (nat_eq p) (range_with_len a k) ≡ false
outside_range p a k h = by (nat_lt p a) refl
  where
    by : (b : Bool) → nat_lt p a ≡ b → list_any (nat_eq p) (range_with_len a k) ≡ false
    by true is = let low : p < a = grind (arith, nat_tests) in below_range p a k low
    by false is = let low : a ≤ p = grind (arith, nat_tests) in above_range p a k (h low)

-- ---- one name more
pub moved_step : (old new : Members) (names front : List (List ℕ)) (name : List ℕ) → front ≡ moved_names old new names → (b : Bool) → b ≡ (differs old new name && not (has front name))
    → cond b (front ++ name ∷ []) front ≡ moved_names old new (names ++ name ∷ [])
moved_step old new names front name was b is = by (differs old new name) refl (has front name) refl b is
  where
    by : (d : Bool) → differs old new name ≡ d → (h : Bool) → has front name ≡ h → (b : Bool) → b ≡ (d && not h) → cond b (front ++ name ∷ []) front ≡ moved_names old new (names ++ name ∷ [])
    by false stays h there true off = absurd (true≢false off)
    by false stays h there false off = was ∙ sym (moved-kept old new names name stays)
    by true moves true there true off = absurd (true≢false off)
    by true moves true there false off = was ∙ sym (moved-there old new names name (ap (λ (l : List (List ℕ)). has l name) (sym was) ∙ there))
    by true moves false there false off = absurd (true≢false (sym off))
    by true moves false there true off =
        ap (λ (l : List (List ℕ)). l ++ name ∷ []) was ∙ sym (moved-more old new names name moves (ap (λ (l : List (List ℕ)). has l name) (sym was) ∙ there))

-- one place more of those that were noted
names_more : (es : List Entry) (row ps : List ℕ) (p : ℕ) → names_at es (row ++ (ps ++ p ∷ [])) ≡ names_at es (row ++ ps) ++ name_at es p ∷ []
names_more es row ps p = ap (names_at es) (sym (append_assoc row ps (p ∷ []))) ∙ names_at-push es (row ++ ps) p

pub gather_step : (es : List Entry) (old new : Members) (row front noted : List ℕ) (i p : ℕ) → i < length noted → p ≡ get_or noted i 0
    → names_at es (row ++ front) ≡ moved_names old new (names_at es (row ++ take i noted))
    → (b : Bool) → b ≡ (differs old new (name_at es p) && not (has (names_at es (row ++ front)) (name_at es p)))
    → names_at es (row ++ cond b (front ++ p ∷ []) front) ≡ moved_names old new (names_at es (row ++ take (i + 1) noted))
gather_step es old new row front noted i p lt here was b is =
    chosen b ∙ moved_step old new (names_at es (row ++ take i noted)) (names_at es (row ++ front)) (name_at es p) was b is
    ∙ ap (moved_names old new) (sym (names_more es row (take i noted) p) ∙ ap (λ (ps : List ℕ). names_at es (row ++ ps)) (ap (λ (q : ℕ). take i noted ++ q ∷ []) here ∙ sym (take_more noted i 0 lt)))
  where
    chosen : (b : Bool) → names_at es (row ++ cond b (front ++ p ∷ []) front) ≡ cond b (names_at es (row ++ front) ++ name_at es p ∷ []) (names_at es (row ++ front))
    chosen true = names_more es row front p
    chosen false = refl

-- ---- two places exchanged
module _ (P : ℕ → Type 0) (f g : ℕ → ℕ) (a b n : ℕ) (at_a : g a ≡ f b) (at_b : g b ≡ f a) (rest : (m : ℕ) → (m ≡ a → ⊥) → (m ≡ b → ⊥) → g m ≡ f m) (in_a : a < n) (in_b : b < n) where
  exchanged : ((k : ℕ) → k < n → P (f k)) → (k : ℕ) → k < n → P (g k)
  exchanged all k lt = by (nat_eq k a) refl (nat_eq k b) refl
    where
      by : (x : Bool) → nat_eq k a ≡ x → (y : Bool) → nat_eq k b ≡ y → P (g k)
      by true is y other = let here : k ≡ a = grind (arith, nat_tests) in subst P (sym (ap g here ∙ at_a)) (all b in_b)
      by false is true other = let here : k ≡ b = grind (arith, nat_tests) in subst P (sym (ap g here ∙ at_b)) (all a in_a)
      by false is false other =
          let not_a : (k ≡ a → ⊥) = λ e. true≢false (sym (same k a e) ∙ is) in
          let not_b : (k ≡ b → ⊥) = λ e. true≢false (sym (same k b e) ∙ other) in
          subst P (sym (rest k not_a not_b)) (all k lt)
        where
          same : (i j : ℕ) → i ≡ j → nat_eq i j ≡ true
          same i j e = grind (arith, nat_tests)

IsWithin-by : (n : ℕ) (ps : List ℕ) → ((k : ℕ) → k < length ps → get_or ps k 0 < n) → IsWithin n ps
IsWithin-by n [] h = tt
IsWithin-by n (p ∷ ps) h = (h 0 (omega arith), IsWithin-by n ps (λ k lt. h (suc k) (omega (arith, lt))))

pub IsWithin-get : (n : ℕ) (ps : List ℕ) (k : ℕ) → IsWithin n ps → k < length ps → get_or ps k 0 < n
IsWithin-get n [] k h lt = absurd (omega (arith, lt))
IsWithin-get n (p ∷ ps) zero h lt = h.0
IsWithin-get n (p ∷ ps) (suc k) h lt = IsWithin-get n ps k h.1 (omega (arith, lt))

none_by : (t : ℕ → Bool) (ps : List ℕ) → ((k : ℕ) → k < length ps → t (get_or ps k 0) ≡ false) → list_any t ps ≡ false
none_by t [] h = refl
none_by t (p ∷ ps) h = ap (λ (b : Bool). b || list_any t ps) (h 0 (omega arith)) ∙ none_by t ps (λ k lt. h (suc k) (omega (arith, lt)))

none_at : (t : ℕ → Bool) (ps : List ℕ) (k : ℕ) → list_any t ps ≡ false → k < length ps → t (get_or ps k 0) ≡ false
none_at t ps k none lt = by (t (get_or ps k 0)) refl
  where
    by : (b : Bool) → t (get_or ps k 0) ≡ b → b ≡ false
    by true is = absurd (true≢false (sym (list_any_at t ps k 0 lt is) ∙ none))
    by false is = refl

pub IsWaiting-swap : (es : List Entry) (ps qs : List ℕ) (a b : ℕ) → a < length ps → b < length ps → qs ≡ swap ps a b → IsWaiting ps es → IsWaiting qs es
IsWaiting-swap es ps qs a b in_a in_b is w =
    let s = swapped_from_swap ps qs a b 0 in_a in_b is in
    let len : length qs ≡ length ps = ap (λ (l : List ℕ). length l) is ∙ length-swap ps a b in
    record {
      within = IsWithin-by (length es) qs (λ k lt. exchanged (λ p. p < length es) (λ i. get_or ps i 0) (λ i. get_or qs i 0) a b (length ps) s.0 s.1 s.2 in_a in_b
          (λ k lt. IsWithin-get (length es) ps k w.within lt) k (omega (arith, lt, len)));
      settled = λ j none. w.settled j (none_by (λ p. nat_eq p j) ps (λ k lt. exchanged (λ p. nat_eq p j ≡ false) (λ i. get_or qs i 0) (λ i. get_or ps i 0) a b (length ps) (sym s.1) (sym s.0)
          (λ m x y. sym (s.2 m x y)) in_a in_b (λ k lt. none_at (λ p. nat_eq p j) qs k none (omega (arith, lt, len))) k lt));
    }

-- what stands behind both
pub get_or-swap : (ps qs : List ℕ) (a b k : ℕ) → a ≤ b → b < length ps → b + 1 ≤ k → qs ≡ swap ps a b → get_or qs k 0 ≡ get_or ps k 0
get_or-swap ps qs a b k le lt behind is =
    (swapped_from_swap ps qs a b 0 (omega (arith, le, lt)) lt is).2 k (λ e. omega (arith, e, le, behind)) (λ e. omega (arith, e, behind))

-- what stands in front once the next place was exchanged for the one behind it
pub take-swap : (ps qs : List ℕ) (a b : ℕ) → a ≤ b → b < length ps → qs ≡ swap ps a b → take (a + 1) qs ≡ take a ps ++ get_or ps b 0 ∷ []
take-swap ps qs a b le lt is =
    let in_a : a < length ps = omega (arith, le, lt) in
    let s = swapped_from_swap ps qs a b 0 in_a lt is in
    let len : length qs ≡ length ps = ap (λ (l : List ℕ). length l) is ∙ length-swap ps a b in
    let same : take a qs ≡ take a ps = ap (take a) is ∙ ap (take a) (sym (swap_is ps a b 0 in_a lt))
    ∙ take-set-le a (set ps a (get_or ps b 0)) b (get_or ps a 0) le ∙ take-set-le a ps a (get_or ps b 0) (omega arith) in
    take_more qs a 0 (omega (arith, in_a, len)) ∙ ap (λ (l : List ℕ). l ++ get_or qs a 0 ∷ []) same ∙ ap (λ (p : ℕ). take a ps ++ p ∷ []) s.0

-- the same names that move between equal sets
pub moved_between : (old old' new new' : Members) (names names' : List (List ℕ)) → old ≡ old' → new ≡ new' → names ≡ names' → moved_names old new names ≡ moved_names old' new' names'
moved_between old old' new new' names names' a b c =
    ap (λ (m : Members). moved_names m new names) a ∙ ap (λ (m : Members). moved_names old' m names) b ∙ ap (moved_names old' new') c

no_last : (ps : List ℕ) (p : ℕ) → ps ++ p ∷ [] ≡ [] → ⊥
no_last [] p h = cc
no_last (q ∷ ps) p h = cc

-- ---- drafts
module _ {A : Type 0} where
  -- a new draft notes nothing and moves nothing
  pub noted_none : (draft : Draft A) → draft.leading ≡ 0 → draft.touched.items ≡ [] → noted_places draft ≡ []
  noted_none draft none empty = ap (λ (n : ℕ). range_with_len draft.kept n ++ draft.touched.items) none ∙ empty

  pub moved_none : (draft : Draft A) → draft.leading ≡ 0 → draft.moved ≡ 0 → moved_places draft ≡ []
  moved_none draft none still = ap (λ (n : ℕ). range_with_len draft.kept n ++ take draft.moved draft.touched.items) none ∙ ap (λ (n : ℕ). take n draft.touched.items) still

  pub IsLed-none : (draft : Draft A) (len : ℕ) → draft.kept ≡ len → draft.leading ≡ 0 → IsLed draft len
  IsLed-none draft len kept none = record { within = omega (arith, kept, none); alone = λ _. omega (arith, kept, none) }

  pub IsCounted-none : (draft : Draft A) (es : List Entry) → draft.kept ≡ length es → draft.leading ≡ 0 → draft.moved ≡ 0 → IsCounted draft es
  IsCounted-none draft es kept none still = record { leading = omega (arith, kept, none); moved = omega (arith, still) }

  -- the places that are noted have entries
  pub noted_within : (draft : Draft A) (len : ℕ) → IsLed draft len → IsWithin len draft.touched.items → IsWithin len (noted_places draft)
  noted_within draft len led within = IsWithin-append len (range_with_len draft.kept draft.leading) draft.touched.items (IsWithin-range len draft.kept draft.leading led.within) within

  -- a place more is noted
  pub noted_more : (draft : Draft A) (touched : List ℕ) (p : ℕ) → touched ≡ draft.touched.items ++ p ∷ [] → range_with_len draft.kept draft.leading ++ touched ≡ noted_places draft ++ p ∷ []
  noted_more draft touched p more =
      ap (λ (ps : List ℕ). range_with_len draft.kept draft.leading ++ ps) more ∙ sym (append_assoc (range_with_len draft.kept draft.leading) draft.touched.items (p ∷ []))

  pub IsLed-noted : (old new : Draft A) (p was len : ℕ) → new.kept ≡ old.kept → new.leading ≡ old.leading → new.touched.items ≡ old.touched.items ++ p ∷ [] → len ≡ was → IsLed old was → IsLed new len
  IsLed-noted old new p was len kept leading more same led = record {
    within = omega (arith, led.within, kept, leading, same);
    alone = λ none. absurd (no_last old.touched.items p (sym more ∙ none));
  }

  -- a new member leads
  pub noted_lead : (draft : Draft A) (leading p : ℕ) → leading ≡ suc draft.leading → draft.touched.items ≡ [] → IsLed draft p → range_with_len draft.kept leading ++ draft.touched.items ≡ noted_places draft ++ p ∷ []
  noted_lead draft leading p more none led =
      let row = range_with_len draft.kept draft.leading in
      let front : noted_places draft ≡ row = ap (λ (ps : List ℕ). row ++ ps) none ∙ append-nil row in
      ap (λ (n : ℕ). range_with_len draft.kept n ++ draft.touched.items) more ∙ ap (λ (ps : List ℕ). range_with_len draft.kept (suc draft.leading) ++ ps) none ∙ append-nil (range_with_len draft.kept (suc draft.leading))
      ∙ range_more draft.kept draft.leading ∙ ap (λ (k : ℕ). row ++ k ∷ []) (led.alone none) ∙ ap (λ (ps : List ℕ). ps ++ p ∷ []) (sym front)

  -- ---- the places that move, one by one
  pub length-moved : (draft : Draft A) (es : List Entry) → IsCounted draft es → length (moved_places draft) ≡ draft.leading + draft.moved
  length-moved draft es counted =
      length-append (range_with_len draft.kept draft.leading) (take draft.moved draft.touched.items)
      ∙ ap (λ (n : ℕ). n + length (take draft.moved draft.touched.items)) (length-range_with_len draft.kept draft.leading)
      ∙ ap (λ (n : ℕ). draft.leading + n) (length-take-le draft.moved draft.touched.items counted.moved)

  pub moved_leading : (draft : Draft A) (i : ℕ) → i < draft.leading → get_or (moved_places draft) i 0 ≡ draft.kept + i
  moved_leading draft i lt =
      get_or_append_left (range_with_len draft.kept draft.leading) (take draft.moved draft.touched.items) 0 i (omega (arith, lt, length-range_with_len draft.kept draft.leading))
      ∙ get_or-range_with_len draft.kept draft.leading i 0 lt

  pub moved_noted : (draft : Draft A) (i : ℕ) → draft.leading ≤ i → i < draft.leading + draft.moved → get_or (moved_places draft) i 0 ≡ get_or draft.touched.items (i - draft.leading) 0
  moved_noted draft i le lt =
      get_or-append_right (range_with_len draft.kept draft.leading) (take draft.moved draft.touched.items) draft.leading i 0 (length-range_with_len draft.kept draft.leading) le
      ∙ get_or-take draft.moved draft.touched.items (i - draft.leading) 0 (omega (arith, le, lt))

self : (n : ℕ) → nat_eq n n ≡ true
self n = grind (arith, nat_tests)

-- a member that leaves has no score once those at all places left
pub score_gone : (es : List Entry) (order places : List ℕ) (i : ℕ) → IsDistinct same_bytes (keys_of es) → IsWithin (length es) order
    → ((q : List ℕ) → list_any (bytes_eq q) (names_at es order) ≡ list_any (bytes_eq q) (names_at es places)) → i < length order
    → fin.get (remove_all (members_by staged_score es) (names_at es places)) (name_at es (get_or order i 0)) ≡ None
score_gone es order places i apart within same lt =
    let place = get_or order i 0 in
    let named : list_any (bytes_eq (name_at es place)) (names_at es order) ≡ true = sym (any_place es order place apart within (IsWithin-get (length es) order i within lt)) ∙ list_any_at (nat_eq place) order i 0 lt (self place) in
    get-remove_all (members_by staged_score es) (names_at es places) (name_at es place)
    ∙ ap (λ (b : Bool). cond b None (fin.get (members_by staged_score es) (name_at es place))) (sym (same (name_at es place)) ∙ named)
