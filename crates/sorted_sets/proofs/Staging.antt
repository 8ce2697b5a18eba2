-- Entries while a command is in the making.
use Rattle.std.proofs.Common.{◌≡◌, ℕ, ◌+◌, ◌<◌, ◌≤◌, ◌||◌, ℤ, Bool, true, false, cond, nat_eq, List, [], ◌∷◌, ◌++◌, length, take, drop, zero, suc, slice_get, get_or, Option, None, Some, option_map, IfSome, refl, sym, ap, subst, ◌∙◌, arith, length-append, drop-cons, add-one, true≢false}
use Rattle.std.specs.List.{list_any}
use Rattle.std.specs.Map.{lookup_key, values_of}
use Rattle.std.specs.Str.{bytes_eq}
use Rattle.std.specs.Cmp.Lexicographic.{bytes_decides}
use Rattle.std.specs.FinMap as fin
use Rattle.std.specs.HashMap.{HashMap, UpdatesBy}
use Rattle.std.proofs.lemmas.Map.Entries.{lookup_from_place}
use Rattle.std.proofs.lemmas.Map.Made.{lookup_key_passes}
use Rattle.std.proofs.lemmas.Option.{slice_get-map}
use Rattle.std.proofs.lemmas.Bool.Decides.{nat_tests}
use Rattle.indexmap.specs.IndexMap.{set_value_at, with_value_at, IsUnique}
use Rattle.indexmap.proofs.CallerLemmas.{updates-with_value_at}
use Rattle.sorted_sets.specs.MembersWithStagedScores.{Entry, current_score, staged_score, rows_by, slots, members_by, slot_at, same_bytes, Stays, ScoresAreSettled, IsWithin, IsWaiting, Grows}
use Rattle.sorted_sets.specs.declared.set.members_with_staged_scores.ScoreSlot.{ScoreSlot}
use Rattle.sorted_sets.proofs.Bridge.{same_equiv, updates_bytes, one_put, one_gone}

-- ---- places
nat_eq-same : (i j : ℕ) → i ≡ j → nat_eq i j ≡ true
nat_eq-same i j e = grind (arith, nat_tests)

pub IsWithin-more : (m n : ℕ) (ps : List ℕ) → m ≤ n → IsWithin m ps → IsWithin n ps
IsWithin-more m n [] h p = p
IsWithin-more m n (x ∷ ps) h p = (omega (arith, p.0), IsWithin-more m n ps h p.1)

IsWithin-push : (n i : ℕ) (ps : List ℕ) → i < n → IsWithin n ps → IsWithin n (ps ++ i ∷ [])
IsWithin-push n i [] h p = (h, p)
IsWithin-push n i (x ∷ ps) h p = (p.0, IsWithin-push n i ps h p.1)

-- what passes at no place of a longer list passes at none of its parts
not_front : (t : ℕ → Bool) (ps : List ℕ) (i : ℕ) → list_any t (ps ++ i ∷ []) ≡ false → list_any t ps ≡ false
not_front t [] i h = refl
not_front t (p ∷ ps) i h = by (t p) (not_front t ps i) h
  where
    by : (b : Bool) → (list_any t (ps ++ i ∷ []) ≡ false → list_any t ps ≡ false) → (b || list_any t (ps ++ i ∷ [])) ≡ false → (b || list_any t ps) ≡ false
    by true rest h = h
    by false rest h = rest h

not_last : (t : ℕ → Bool) (ps : List ℕ) (i : ℕ) → list_any t (ps ++ i ∷ []) ≡ false → t i ≡ false
not_last t [] i h = by (t i) h
  where
    by : (b : Bool) → (b || false) ≡ false → b ≡ false
    by true h = h
    by false h = refl
not_last t (p ∷ ps) i h = by (t p) (not_last t ps i) h
  where
    by : (b : Bool) → (list_any t (ps ++ i ∷ []) ≡ false → t i ≡ false) → (b || list_any t (ps ++ i ∷ [])) ≡ false → t i ≡ false
    by true rest h = cc
    by false rest h = rest h

take_front : (m n : ℕ) (xs : List (List ℕ × ℤ)) → m ≤ n → take m (take n xs) ≡ take m xs
take_front zero n xs h = refl
take_front (suc m) zero xs h = absurd (omega arith)
take_front (suc m) (suc n) [] h = refl
take_front (suc m) (suc n) (x ∷ xs) h = ap (λ l. x ∷ l) (take_front m n xs (omega arith))

-- ---- an entry put last
front_push : (f : ScoreSlot → ℤ) (es : List Entry) (e : Entry) → take (length es) (rows_by f (es ++ e ∷ [])) ≡ rows_by f es
front_push f [] e = refl
front_push f (x ∷ es) e = ap (λ l. (x.0, f x.1) ∷ l) (front_push f es e)

pub Grows-push : (es : List Entry) (e : Entry) → Grows es (es ++ e ∷ [])
Grows-push es e = record { longer = omega (arith, length-append es (e ∷ [])); front = front_push current_score es e }

stays_push : (es : List Entry) (e : Entry) (i : ℕ) → Stays e → IfSome (slice_get es i) Stays → IfSome (slice_get (es ++ e ∷ []) i) Stays
stays_push [] e zero s h = s
stays_push [] e (suc i) s h = h
stays_push (x ∷ es) e zero s h = h
stays_push (x ∷ es) e (suc i) s h = stays_push es e i s h

pub IsWaiting-push : (ps : List ℕ) (es : List Entry) (e : Entry) → Stays e → IsWaiting ps es → IsWaiting ps (es ++ e ∷ [])
IsWaiting-push ps es e s w = record {
  within = IsWithin-more (length es) (length (es ++ e ∷ [])) ps (omega (arith, length-append es (e ∷ []))) w.within;
  settled = λ i h. stays_push es e i s (w.settled i h);
}

pub Grows-self : (es : List Entry) → Grows es es
Grows-self es = record { longer = omega arith; front = all es }
  where
    all : (es : List Entry) → take (length es) (rows_by current_score es) ≡ rows_by current_score es
    all [] = refl
    all (e ∷ es) = ap (λ l. (e.0, current_score e.1) ∷ l) (all es)

-- ---- other scores at a place
rows_written : (f : ScoreSlot → ℤ) (es : List Entry) (i : ℕ) (w : ScoreSlot) → IfSome (slice_get es i) (λ e. f w ≡ f e.1) → rows_by f (set_value_at es i w) ≡ rows_by f es
rows_written f [] i w h = refl
rows_written f (e ∷ es) zero w h = ap (λ s. (e.0, s) ∷ rows_by f es) h
rows_written f (e ∷ es) (suc i) w h = ap (λ l. (e.0, f e.1) ∷ l) (rows_written f es i w h)

pub length_written : (es : List Entry) (i : ℕ) (w : ScoreSlot) → length (set_value_at es i w) ≡ length es
length_written [] i w = refl
length_written (e ∷ es) zero w = refl
length_written (e ∷ es) (suc i) w = ap suc (length_written es i w)

elsewhere : (es : List Entry) (i j : ℕ) (w : ScoreSlot) → nat_eq i j ≡ false → slice_get (set_value_at es i w) j ≡ slice_get es j
elsewhere es i j w h = other es i j w (λ e. true≢false (sym (nat_eq-same i j e) ∙ h))
  where
    other : (es : List Entry) (i j : ℕ) (w : ScoreSlot) → (i ≡ j → ⊥) → slice_get (set_value_at es i w) j ≡ slice_get es j
    other [] i j w h = refl
    other (e ∷ es) zero zero w h = absurd (h refl)
    other (e ∷ es) zero (suc j) w h = refl
    other (e ∷ es) (suc i) zero w h = refl
    other (e ∷ es) (suc i) (suc j) w h = other es i j w (λ e. h (ap suc e))

at_place : (es : List Entry) (i : ℕ) (w : ScoreSlot) → w.staged ≡ w.current → IfSome (slice_get (set_value_at es i w) i) Stays
at_place [] i w h = tt
at_place (e ∷ es) zero w h = h
at_place (e ∷ es) (suc i) w h = at_place es i w h

pub Grows-written : (es : List Entry) (i : ℕ) (w : ScoreSlot) → IfSome (slice_get es i) (λ e. current_score w ≡ current_score e.1) → Grows es (set_value_at es i w)
Grows-written es i w h = record {
  longer = omega (arith, length_written es i w);
  front = ap (take (length es)) (rows_written current_score es i w h) ∙ (Grows-self es).front;
}

-- a score that waits, at one more place
pub IsWaiting-written : (ps : List ℕ) (es : List Entry) (i : ℕ) (w : ScoreSlot) → i < length es → IsWaiting ps es → IsWaiting (ps ++ i ∷ []) (set_value_at es i w)
IsWaiting-written ps es i w lt old = record {
  within = subst (λ n. IsWithin n (ps ++ i ∷ [])) (sym (length_written es i w)) (IsWithin-push (length es) i ps lt old.within);
  settled = λ j h. subst (λ o. IfSome o Stays) (sym (elsewhere es i j w (not_last (λ p. nat_eq p j) ps i h))) (old.settled j (not_front (λ p. nat_eq p j) ps i h));
}

-- one place more, whose score need not wait
pub IsWaiting-more : (ps : List ℕ) (es : List Entry) (i : ℕ) → i < length es → IsWaiting ps es → IsWaiting (ps ++ i ∷ []) es
IsWaiting-more ps es i lt old = record {
  within = IsWithin-push (length es) i ps lt old.within;
  settled = λ j h. old.settled j (not_front (λ p. nat_eq p j) ps i h);
}

-- and one place fewer, where the score that waited is settled
pub IsWaiting-settled : (i : ℕ) (ps : List ℕ) (es : List Entry) (w : ScoreSlot) → w.staged ≡ w.current → IsWaiting (i ∷ ps) es → IsWaiting ps (set_value_at es i w)
IsWaiting-settled i ps es w same old = record {
  within = subst (λ n. IsWithin n ps) (sym (length_written es i w)) old.within.1;
  settled = λ j h. by j h (nat_eq i j) refl;
}
  where
    by : (j : ℕ) → list_any (λ p. nat_eq p j) ps ≡ false → (b : Bool) → nat_eq i j ≡ b → IfSome (slice_get (set_value_at es i w) j) Stays
    by j h true e = let at : i ≡ j = grind (arith, nat_tests) in subst (λ k. IfSome (slice_get (set_value_at es i w) k) Stays) at (at_place es i w same)
    by j h false e = subst (λ o. IfSome o Stays) (sym (elsewhere es i j w e)) (old.settled j (ap (λ b. b || list_any (λ p. nat_eq p j) ps) e ∙ h))

abbrev pub slot_of : Entry → List ℕ × ScoreSlot
slot_of e = (e.0, e.1)

-- the set that waits, after a write
pub members_written : {S : Type 0} (f : ScoreSlot → ℤ) (m : HashMap (List ℕ) ScoreSlot S) (i : ℕ) (w : ScoreSlot) (q : List ℕ) (s : ScoreSlot) → IsUnique same_bytes m → slice_get (slots m.entries) i ≡ Some (q, s) → members_by f (set_value_at m.entries i w) ≡ fin.insert (members_by f m.entries) q (f w)
members_written f m i w q s unique at = by (slice_get m.entries i) refl (sym (slice_get-map slot_of m.entries i) ∙ at)
  where
    by : (o : Option Entry) → slice_get m.entries i ≡ o → option_map slot_of o ≡ Some (q, s) → members_by f (set_value_at m.entries i w) ≡ fin.insert (members_by f m.entries) q (f w)
    by None is h = cc
    by (Some e) is h =
        let same : slot_of e ≡ (q, s) = cc in
        let key : e.0 ≡ q = ap (λ (p : List ℕ × ScoreSlot). p.0) same in
        one_put f m.entries (set_value_at m.entries i w) e.0 w (updates_bytes e.0 m (with_value_at m i w) (Some w) (updates-with_value_at m i w same_equiv unique e.0 e.1 is))
        ∙ ap (λ k. fin.insert (members_by f m.entries) k (f w)) key

-- the place at which a look-up finds a member
pub place_of : (es : List Entry) (i : ℕ) (q : List ℕ) (k : List ℕ) (s : ScoreSlot) → slice_get es i ≡ Some (k, s) → lookup_key (λ k. bytes_eq q k) es ≡ Some k → slice_get (slots es) i ≡ Some (q, s)
place_of es i q k s at found =
    slice_get-map slot_of es i ∙ ap (option_map slot_of) at
    ∙ ap (λ b. Some (b, s)) (sym ((bytes_decides q k).0 (lookup_key_passes (λ k. bytes_eq q k) es k found)))

-- ---- a front of the entries
pub ScoresAreSettled-take : (n : ℕ) (es : List Entry) → ScoresAreSettled es → ScoresAreSettled (take n es)
ScoresAreSettled-take n es h i = at n es i (h i)
  where
    at : (n : ℕ) (es : List Entry) (i : ℕ) → IfSome (slice_get es i) Stays → IfSome (slice_get (take n es) i) Stays
    at zero es i h = tt
    at (suc n) [] i h = h
    at (suc n) (e ∷ es) zero h = h
    at (suc n) (e ∷ es) (suc i) h = at n es i h

pub Grows-then : (es fs gs : List Entry) → Grows es fs → Grows fs gs → Grows es gs
Grows-then es fs gs a b = record {
  longer = omega (arith, a.longer, b.longer);
  front = sym (take_front (length es) (length fs) (rows_by current_score gs) a.longer) ∙ ap (take (length es)) b.front ∙ a.front;
}

-- ---- what reading a value by its place tells
pub score_at_place : (f : ScoreSlot → ℤ) (es : List Entry) (i : ℕ) (s w : ScoreSlot) → slice_get (values_of es) i ≡ Some s → f w ≡ f s → IfSome (slice_get es i) (λ e. f w ≡ f e.1)
score_at_place f [] i s w at same = tt
score_at_place f (e ∷ es) zero s w at same = let is : e.1 ≡ s = cc in same ∙ ap f (sym is)
score_at_place f (e ∷ es) (suc i) s w at same = score_at_place f es i s w at same

pub rows_kept : (f : ScoreSlot → ℤ) (es : List Entry) (i : ℕ) (s w : ScoreSlot) → slice_get (values_of es) i ≡ Some s → f w ≡ f s → rows_by f (set_value_at es i w) ≡ rows_by f es
rows_kept f es i s w at same = rows_written f es i w (score_at_place f es i s w at same)

pub rows_take : (f : ScoreSlot → ℤ) (n : ℕ) (es : List Entry) → rows_by f (take n es) ≡ take n (rows_by f es)
rows_take f zero es = refl
rows_take f (suc n) [] = refl
rows_take f (suc n) (e ∷ es) = ap (λ l. (e.0, f e.1) ∷ l) (rows_take f n es)

-- one step of a walk over the places
pub IsWaiting-next : (ps : List ℕ) (i : ℕ) (es : List Entry) (w : ScoreSlot) → w.staged ≡ w.current → i < length ps → IsWaiting (drop i ps) es → IsWaiting (drop (i + 1) ps) (set_value_at es (get_or ps i 0) w)
IsWaiting-next ps i es w same lt old =
    subst (λ j. IsWaiting (drop j ps) (set_value_at es (get_or ps i 0) w)) (sym (add-one i))
    (IsWaiting-settled (get_or ps i 0) (drop (suc i) ps) es w same (subst (λ (qs : List ℕ). IsWaiting qs es) (drop-cons ps i 0 lt) old))

-- where nothing waits, both sets are one
pub rows_same : (es : List Entry) → ScoresAreSettled es → rows_by staged_score es ≡ rows_by current_score es
rows_same [] h = refl
rows_same (e ∷ es) h = ap (λ s. (e.0, s) ∷ rows_by staged_score es) (h 0) ∙ ap (λ l. (e.0, current_score e.1) ∷ l) (rows_same es (λ i. h (suc i)))

pub members_same : (es : List Entry) → ScoresAreSettled es → members_by staged_score es ≡ members_by current_score es
members_same es h = ap (λ (rows : List (List ℕ × ℤ)). fin.from_entries rows) (rows_same es h)

-- ---- members that leave
settled_at : (es : List Entry) (q : List ℕ) → ScoresAreSettled es → IfSome (slot_at es q) (λ s. s.staged ≡ s.current)
settled_at [] q h = tt
settled_at (e ∷ es) q h = by (bytes_eq q e.0) (settled_at es q (λ i. h (suc i)))
  where
    by : (b : Bool) → IfSome (slot_at es q) (λ s. s.staged ≡ s.current) → IfSome (cond b (Some e.1) (slot_at es q)) (λ s. s.staged ≡ s.current)
    by true rest = h 0
    by false rest = rest

pub ScoresAreSettled-gone : {S : Type 0} (bs : List ℕ) (m n : HashMap (List ℕ) ScoreSlot S) → UpdatesBy same_bytes (λ k. bytes_eq bs k) m n None → IsUnique same_bytes n → ScoresAreSettled m.entries → ScoresAreSettled n.entries
ScoresAreSettled-gone bs m n h unique old i = by (slice_get n.entries i) refl
  where
    left : (b : Bool) (o : Option ScoreSlot) (s : ScoreSlot) → cond b None o ≡ Some s → IfSome o (λ s. s.staged ≡ s.current) → s.staged ≡ s.current
    left true o s e h = cc
    left false None s e h = cc
    left false (Some t) s e h = let is : t ≡ s = cc in subst (λ (s : ScoreSlot). s.staged ≡ s.current) is h

    by : (o : Option Entry) → slice_get n.entries i ≡ o → IfSome o Stays
    by None at = tt
    by (Some e) at =
        let here : slot_at n.entries e.0 ≡ Some e.1 = lookup_from_place same_equiv n.entries i e.0 e.1 unique at in
        left (bytes_eq bs e.0) (slot_at m.entries e.0) e.1 (sym (updates_bytes bs m n None h e.0) ∙ here) (settled_at m.entries e.0 old)

pub members_gone : {S : Type 0} (f : ScoreSlot → ℤ) (bs : List ℕ) (m n : HashMap (List ℕ) ScoreSlot S) → UpdatesBy same_bytes (λ k. bytes_eq bs k) m n None → members_by f n.entries ≡ fin.remove (members_by f m.entries) bs
members_gone f bs m n h = one_gone f m.entries n.entries bs (updates_bytes bs m n None h)

pub IsWaiting-none : (es : List Entry) → ScoresAreSettled es → IsWaiting [] es
IsWaiting-none es h = record { within = tt; settled = λ i none. h i }
