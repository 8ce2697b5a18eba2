-- Counting members that come in and leave.
use Rattle.std.proofs.Common.{◌≡◌, ◌≢◌, ◌↔◌, IsTrue, ℕ, ◌+◌, ◌-◌, ◌<◌, ◌≤◌, ◌||◌, inl, inr, ℤ, Bool, true, false, cond, not, nat_eq, nat_lt, List, [], ◌∷◌, length, take, drop, suc, slice_get, get_or, Option, None, Some, option_map, is_some, IfSome, refl, sym, ap, subst, ◌∙◌, arith, true≢false, drop-cons, add-one}
use Rattle.std.specs.Prelude.{T}
use Rattle.std.specs.List.{AllByRecursion, IsDistinct, list_any, filter}
use Rattle.std.specs.Map.{keys_of, values_of}
use Rattle.std.specs.Str.{bytes_eq}
use Rattle.std.specs.Ordering.{eq_by_cmp, is_eq, is_lt}
use Rattle.std.specs.Cmp.Lexicographic.{nat_list_eq_equiv, bytes_decides}
use Rattle.std.specs.FinMap as fin
use Rattle.std.specs.FinMap.{is_sorted}
use Rattle.std.specs.FinMap.Entries.{below_all}
use Rattle.std.specs.declared.cmp.Ordering.{Ordering}
use Rattle.std.specs.declared.cmp.Ordering.TheVariants.{Less, Equal, Greater}
use Rattle.std.proofs.lemmas.List.{length-map}
use Rattle.std.proofs.lemmas.Map.Text.{is_eq-slice_cmp}
use Rattle.sorted_sets.proofs.Tests.{first, second}
use Rattle.zset_core.specs.SortedSet.{Members, bytes_cmp}
use Rattle.sorted_sets.specs.ChangeCounts.{missing}
use Rattle.std.proofs.lemmas.Bool.Decides.{nat_tests}
use Rattle.std.proofs.lemmas.Option.{slice_get-map}
use Rattle.std.proofs.lemmas.Map.Entries.{lookup_from_place}
use Rattle.sorted_sets.specs.MembersWithStagedScores.{Entry, current_score, staged_score, members_by, slot_at, same_bytes, rows_by, Stays, IsWaiting, Grows}
use Rattle.sorted_sets.specs.declared.set.members_with_staged_scores.ScoreSlot.{ScoreSlot}
use Rattle.std.specs.List.{position_or_len}
use Rattle.std.proofs.Math.Seq.{take-length}
use Rattle.indexmap.proofs.MapLemmas.{distinct-take}
use Rattle.sorted_sets.specs.ChangeCounts.{IsOutline}
use Rattle.zset_core.specs.Semantics.{remove_all}
use Rattle.sorted_sets.specs.declared.set.change_counts.Outline.{Outline}
use Rattle.sorted_sets.proofs.Staging.{rows_take}
use Rattle.sorted_sets.proofs.Gathering.{get-remove_all}
use Rattle.sorted_sets.proofs.Places.{lookup_take, length_take, keys_of-take}
use Rattle.sorted_sets.proofs.Bridge.{same_equiv, get_members, len_members}

-- a name is in a list
abbrev pub has : List (List ℕ) → List ℕ → Bool
has names q = list_any (bytes_eq q) names

ties_any : (q : List ℕ) (names : List (List ℕ)) → list_any (eq_by_cmp bytes_cmp q) names ≡ has names q
ties_any q [] = refl
ties_any q (k ∷ names) = ap (λ b. b || list_any (eq_by_cmp bytes_cmp q) names) (is_eq-slice_cmp q k) ∙ ap (λ b. bytes_eq q k || b) (ties_any q names)

pub has_key : (m : Members) (q : List ℕ) → fin.contains_key m q ≡ has (fin.keys m) q
has_key m q = fin.contains_key-keys m q ∙ ties_any q (fin.keys m)

-- the keys of a finite map are apart
below_apart : (k : List ℕ) (es : List (List ℕ × ℤ)) → T (below_all bytes_cmp k es) → AllByRecursion (λ y. bytes_eq k y ≡ false) (keys_of es)
below_apart k [] h = tt
below_apart k (e ∷ es) h = (sym (is_eq-slice_cmp k e.0) ∙ less (bytes_cmp k e.0) (first (is_lt (bytes_cmp k e.0)) (below_all bytes_cmp k es) h), below_apart k es (second (is_lt (bytes_cmp k e.0)) (below_all bytes_cmp k es) h))
  where
    less : (o : Ordering) → T (is_lt o) → is_eq o ≡ false
    less Less h = refl
    less Equal h = absurd h
    less Greater h = refl

sorted_apart : (es : List (List ℕ × ℤ)) → T (is_sorted bytes_cmp es) → IsDistinct bytes_eq (keys_of es)
unfolding IsDistinct
sorted_apart [] h = tt
sorted_apart (e ∷ es) h = (below_apart e.0 es (first (below_all bytes_cmp e.0 es) (is_sorted bytes_cmp es) h), sorted_apart es (second (below_all bytes_cmp e.0 es) (is_sorted bytes_cmp es) h))

-- ---- counts over lists of names
-- how many pass none of a test
abbrev pub misses : (List ℕ → Bool) → List (List ℕ) → ℕ
misses t names = length (filter (λ k. not (t k)) names)

misses_same : (s t : List ℕ → Bool) (names : List (List ℕ)) → AllByRecursion (λ k. s k ≡ t k) names → misses s names ≡ misses t names
misses_same s t [] h = refl
misses_same s t (k ∷ names) h = by (s k) (t k) h.0 (misses_same s t names h.1)
  where
    by : (a b : Bool) → a ≡ b → misses s names ≡ misses t names → length (cond (not a) (k ∷ filter (λ k. not (s k)) names) (filter (λ k. not (s k)) names)) ≡ length (cond (not b) (k ∷ filter (λ k. not (t k)) names) (filter (λ k. not (t k)) names))
    by true true e rest = rest
    by false false e rest = ap suc rest
    by true false e rest = cc
    by false true e rest = cc

-- a name that is there once counts once
misses_one : (h : List ℕ → Bool) (x : List ℕ) (names : List (List ℕ)) → IsDistinct bytes_eq names → has names x ≡ true → h x ≡ false → suc (misses (λ k. bytes_eq k x || h k) names) ≡ misses h names
unfolding IsDistinct
misses_one h x [] d there new = cc
misses_one h x (k ∷ names) d there new = by (bytes_eq x k) refl (misses_one h x names d.1)
  where
    others : (names : List (List ℕ)) → AllByRecursion (λ y. bytes_eq k y ≡ false) names → bytes_eq x k ≡ true → AllByRecursion (λ y. (bytes_eq y x || h y) ≡ h y) names
    others [] a e = tt
    others (y ∷ names) a e = (ap (λ b. b || h y) (nat_list_eq_equiv.symm y x ∙ nat_list_eq_equiv.congr x k y e ∙ a.0), others names a.1 e)

    here : (a b : Bool) → a ≡ true → b ≡ false → misses (λ k. bytes_eq k x || h k) names ≡ misses h names
        → suc (length (cond (not (a || b)) (k ∷ filter (λ k. not (bytes_eq k x || h k)) names) (filter (λ k. not (bytes_eq k x || h k)) names))) ≡ length (cond (not b) (k ∷ filter (λ k. not (h k)) names) (filter (λ k. not (h k)) names))
    here true false e f rest = ap suc rest
    here true true e f rest = cc
    here false b e f rest = cc

    there_too : (a b : Bool) → a ≡ false → suc (misses (λ k. bytes_eq k x || h k) names) ≡ misses h names
        → suc (length (cond (not (a || b)) (k ∷ filter (λ k. not (bytes_eq k x || h k)) names) (filter (λ k. not (bytes_eq k x || h k)) names))) ≡ length (cond (not b) (k ∷ filter (λ k. not (h k)) names) (filter (λ k. not (h k)) names))
    there_too false true e rest = rest
    there_too false false e rest = ap suc rest
    there_too true b e rest = cc

    by : (b : Bool) → bytes_eq x k ≡ b → (has names x ≡ true → h x ≡ false → suc (misses (λ k. bytes_eq k x || h k) names) ≡ misses h names)
        → suc (misses (λ k. bytes_eq k x || h k) (k ∷ names)) ≡ misses h (k ∷ names)
    by true e rest =
        here (bytes_eq k x) (h k) (nat_list_eq_equiv.symm k x ∙ e) (ap h (sym ((bytes_decides x k).0 e)) ∙ new) (misses_same (λ k. bytes_eq k x || h k) h names (others names d.0 e))
    by false e rest = there_too (bytes_eq k x) (h k) (nat_list_eq_equiv.symm k x ∙ e) (rest (sym (ap (λ b. b || has names x) e) ∙ there) new)

-- names that are all there, and apart, make up for those that count
misses_rest : (xs names : List (List ℕ)) → IsDistinct bytes_eq xs → IsDistinct bytes_eq names → AllByRecursion (λ x. has names x ≡ true) xs → misses (has xs) names + length xs ≡ length names
unfolding IsDistinct
misses_rest [] names d e h = omega (arith, every names)
  where
    every : (names : List (List ℕ)) → misses (λ k. false) names ≡ length names
    every [] = refl
    every (k ∷ names) = ap suc (every names)
misses_rest (x ∷ xs) names d e h =
    let one : suc (misses (has (x ∷ xs)) names) ≡ misses (has xs) names = misses_one (has xs) x names e h.0 (none x xs d.0) in
    let rest = misses_rest xs names d.1 e h.1 in
    omega (arith, one, rest)
  where
    none : (x : List ℕ) (xs : List (List ℕ)) → AllByRecursion (λ y. bytes_eq x y ≡ false) xs → has xs x ≡ false
    none x [] h = refl
    none x (y ∷ xs) h = ap (λ b. b || has xs x) h.0 ∙ none x xs h.1

every : {P Q : List ℕ → Type 0} → ((k : List ℕ) → P k → Q k) → (names : List (List ℕ)) → AllByRecursion P names → AllByRecursion Q names
every f [] h = tt
every f (k ∷ names) h = (f k h.0, every f names h.1)

each_in : (names : List (List ℕ)) → AllByRecursion (λ k. has names k ≡ true) names
each_in [] = tt
each_in (k ∷ names) = (ap (λ b. b || has names k) (nat_list_eq_equiv.refl k), every (λ y there. more (bytes_eq y k) (has names y) there) names (each_in names))
  where
    more : (a b : Bool) → b ≡ true → (a || b) ≡ true
    more true b h = refl
    more false b h = h

-- where one set has all members of another, those that the other has not make up for the rest
pub missing_within : (a b : Members) → ((q : List ℕ) → fin.contains_key a q ≡ true → fin.contains_key b q ≡ true) → missing a b + fin.len a ≡ fin.len b
missing_within a b within =
    ap (λ n. n + fin.len a) (misses_same (λ k. fin.contains_key a k) (has (fin.keys a)) (fin.keys b) (all (fin.keys b)))
    ∙ ap (λ n. misses (has (fin.keys a)) (fin.keys b) + n) (sym (len_keys a))
    ∙ misses_rest (fin.keys a) (fin.keys b) (sorted_apart (fin.entries a) (fin.entries_sorted a)) (sorted_apart (fin.entries b) (fin.entries_sorted b)) (each (fin.keys a) (each_in (fin.keys a)))
    ∙ len_keys b
  where
    len_keys : (m : Members) → length (fin.keys m) ≡ fin.len m
    len_keys m = length-map (fin.entries m) (λ (e : List ℕ × ℤ). e.0) ∙ sym (fin.len-entries m)

    all : (names : List (List ℕ)) → AllByRecursion (λ k. fin.contains_key a k ≡ has (fin.keys a) k) names
    all [] = tt
    all (k ∷ names) = (has_key a k, all names)

    each : (names : List (List ℕ)) → AllByRecursion (λ k. has (fin.keys a) k ≡ true) names → AllByRecursion (λ k. has (fin.keys b) k ≡ true) names
    each [] h = tt
    each (k ∷ names) h = (sym (has_key b k) ∙ within k (has_key a k ∙ h.0), each names h.1)

-- and the other way round there is none
pub missing_none : (a b : Members) → ((q : List ℕ) → fin.contains_key b q ≡ true → fin.contains_key a q ≡ true) → 0 ≡ missing a b
missing_none a b within = none (fin.keys b) (every (λ k there. within k (has_key b k ∙ there)) (fin.keys b) (each_in (fin.keys b)))
  where
    none : (names : List (List ℕ)) → AllByRecursion (λ k. fin.contains_key a k ≡ true) names → 0 ≡ length (filter (λ k. not (fin.contains_key a k)) names)
    none [] h = refl
    none (k ∷ names) h = none names h.1 ∙ sym (ap (λ (b : Bool). length (cond (not b) (k ∷ filter (λ k. not (fin.contains_key a k)) names) (filter (λ k. not (fin.contains_key a k)) names))) h.0)

pub outline_same : (o : Outline) (a a' b b' : Members) → a ≡ a' → b ≡ b' → IsOutline o a b → IsOutline o a' b'
outline_same o a a' b b' old new h = subst (λ (m : Members). IsOutline o m b') old (subst (IsOutline o a) new h)

-- nothing comes in or leaves
pub nothing_outline : (m : Members) → IsOutline (record { added = 0; removed = 0; changed = false }) m m
nothing_outline m = record {
  added = missing_none m m (λ q there. there);
  removed = missing_none m m (λ q there. there);
  changed = (λ h. absurd (true≢false (sym h)), λ ne. absurd (ne refl));
  sums = refl;
  one_way = inl refl;
}

-- members leave
pub removed_outline : (m n : Members) (count : ℕ) → ((q : List ℕ) → fin.contains_key n q ≡ true → fin.contains_key m q ≡ true) → count + fin.len n ≡ fin.len m → (count ≡ 0 → n ≡ m)
    → IsOutline (record { added = 0; removed = count; changed = nat_lt 0 count }) m n
removed_outline m n count within rest none = record {
  added = missing_none m n within;
  removed = same (missing n m) (missing_within n m within);
  changed = by (nat_lt 0 count) refl;
  sums = omega (arith, rest);
  one_way = inl refl;
}
  where
    same : (k : ℕ) → k + fin.len n ≡ fin.len m → count ≡ k
    same k h = omega arith

    by : (b : Bool) → nat_lt 0 count ≡ b → IsTrue b ↔ (n ≢ m)
    by true h = (λ _ e. let l : fin.len n ≡ fin.len m = ap fin.len e in let some : 0 < count = grind (arith, nat_tests) in absurd (omega arith), λ _. refl)
    by false h = (λ t. absurd (true≢false (sym t)), λ ne. let zero' : count ≡ 0 = grind (arith, nat_tests) in absurd (ne (none zero')))

pub within_removed : (m : Members) (names : List (List ℕ)) (q : List ℕ) → fin.contains_key (remove_all m names) q ≡ true → fin.contains_key m q ≡ true
within_removed m names q there = by (list_any (bytes_eq q) names) (sym (ap is_some (get-remove_all m names q)) ∙ there)
  where
    by : (b : Bool) → is_some (cond b None (fin.get m q)) ≡ true → fin.contains_key m q ≡ true
    by true h = cc
    by false h = h

none_gone : (m : Members) (names : List (List ℕ)) → length names ≡ 0 → remove_all m names ≡ m
none_gone m [] h = refl
none_gone m (k ∷ ks) h = absurd (omega arith)

-- the outline of a removal, by the names of those that leave, each once
pub gathered_outline : (m n : Members) (names : List (List ℕ)) (count : ℕ) → count ≡ length names → remove_all m names ≡ n → length names + fin.len n ≡ fin.len m
    → IsOutline (record { added = 0; removed = count; changed = nat_lt 0 count }) m n
gathered_outline m n names count is gone rest =
    removed_outline m n count (λ q there. within_removed m names q (ap (λ (x : Members). fin.contains_key x q) gone ∙ there)) (ap (λ k. k + fin.len n) is ∙ rest)
    (λ zero'. sym gone ∙ none_gone m names (sym is ∙ zero'))

-- a place fewer, where the entry there does not wait
pub IsWaiting-skip : (ps : List ℕ) (i : ℕ) (es : List Entry) → i < length ps → IfSome (slice_get es (get_or ps i 0)) Stays → IsWaiting (drop i ps) es → IsWaiting (drop (i + 1) ps) es
IsWaiting-skip ps i es lt stays old = subst (λ j. IsWaiting (drop j ps) es) (sym (add-one i)) (tail (get_or ps i 0) (drop (suc i) ps) stays (subst (λ (qs : List ℕ). IsWaiting qs es) (drop-cons ps i 0 lt) old))
  where
    tail : (p : ℕ) (qs : List ℕ) → IfSome (slice_get es p) Stays → IsWaiting (p ∷ qs) es → IsWaiting qs es
    tail p qs stays w = record { within = w.within.1; settled = λ j h. by j h (nat_eq p j) refl }
      where
        by : (j : ℕ) → list_any (λ p. nat_eq p j) qs ≡ false → (b : Bool) → nat_eq p j ≡ b → IfSome (slice_get es j) Stays
        by j h true e = let at : p ≡ j = grind (arith, nat_tests) in subst (λ k. IfSome (slice_get es k) Stays) at stays
        by j h false e = w.settled j (ap (λ b. b || list_any (λ p. nat_eq p j) qs) e ∙ h)

-- an entry that waits for another score makes two sets
pub moved_apart : (es : List Entry) (i : ℕ) (s : ScoreSlot) → IsDistinct same_bytes (keys_of es) → slice_get (values_of es) i ≡ Some s → (s.staged ≡ s.current → ⊥) → members_by staged_score es ≡ members_by current_score es → ⊥
moved_apart es i s apart at ne same = by (slice_get es i) refl (sym (slice_get-map (λ (e : Entry). e.1) es i) ∙ at)
  where
    by : (o : Option Entry) → slice_get es i ≡ o → option_map (λ (e : Entry). e.1) o ≡ Some s → ⊥
    by None is h = cc
    by (Some e) is h =
        let slot : e.1 ≡ s = cc in
        let here : slot_at es e.0 ≡ Some e.1 = lookup_from_place same_equiv es i e.0 e.1 apart is in
        let both : ◌≡◌ {A = Option ℤ} (Some e.1.staged) (Some e.1.current) =
        ap (option_map staged_score) (sym here) ∙ sym (get_members staged_score es e.0) ∙ ap (λ (m : Members). fin.get m e.0) same ∙ get_members current_score es e.0 ∙ ap (option_map current_score) here in
        let scores : e.1.staged ≡ e.1.current = cc in
        ne (sym (ap (λ (x : ScoreSlot). x.staged) slot) ∙ scores ∙ ap (λ (x : ScoreSlot). x.current) slot)

pub stays_at : (es : List Entry) (i : ℕ) (s : ScoreSlot) → slice_get (values_of es) i ≡ Some s → s.staged ≡ s.current → IfSome (slice_get es i) Stays
stays_at es i s at same = by (slice_get es i) (sym (slice_get-map (λ (e : Entry). e.1) es i) ∙ at)
  where
    by : (o : Option Entry) → option_map (λ (e : Entry). e.1) o ≡ Some s → IfSome o Stays
    by None h = tt
    by (Some e) h = let slot : e.1 ≡ s = cc in ap (λ (x : ScoreSlot). x.staged) slot ∙ same ∙ sym (ap (λ (x : ScoreSlot). x.current) slot)

-- ---- what ZADD staged
abbrev pub before : List Entry → ℕ → Members
before es kept = members_by current_score (take kept es)

still_there : (es : List Entry) (kept : ℕ) (q : List ℕ) → fin.contains_key (before es kept) q ≡ true → fin.contains_key (members_by staged_score es) q ≡ true
still_there es kept q there =
    ap is_some (get_members staged_score es q) ∙ by (nat_lt (position_or_len (λ k. bytes_eq q k) (keys_of es)) kept) (slot_at es q)
    (sym (ap is_some (get_members current_score (take kept es) q ∙ ap (option_map current_score) (lookup_take (λ k. bytes_eq q k) es kept))) ∙ there)
  where
    by : (b : Bool) (o : Option ScoreSlot) → is_some (option_map current_score (cond b o None)) ≡ true → is_some (option_map staged_score o) ≡ true
    by true None h = h
    by true (Some s) h = refl
    by false o h = cc

len_before : (es : List Entry) (kept : ℕ) → IsDistinct same_bytes (keys_of es) → kept ≤ length es → fin.len (before es kept) ≡ kept
len_before es kept apart le =
    len_members current_score (take kept es) (subst (IsDistinct same_bytes) (sym (keys_of-take kept es)) (distinct-take same_equiv kept (keys_of es) apart)) ∙ length_take kept es le

pub staged_outline : (es : List Entry) (kept len added : ℕ) (changed : Bool) → IsDistinct same_bytes (keys_of es) → kept ≤ length es → len ≡ length es → added ≡ len - kept
    → (changed ≡ true → members_by staged_score es ≢ before es kept) → (changed ≡ false → members_by staged_score es ≡ before es kept)
    → IsOutline (record { added = added; removed = 0; changed = changed }) (before es kept) (members_by staged_score es)
staged_outline es kept len added changed apart le is count other same = record {
  added = count_of (missing (before es kept) (members_by staged_score es)) (fin.len (before es kept)) (fin.len (members_by staged_score es))
      (missing_within (before es kept) (members_by staged_score es) (still_there es kept)) (len_before es kept apart le) (len_members staged_score es apart);
  removed = missing_none (members_by staged_score es) (before es kept) (still_there es kept);
  changed = by changed other same;
  sums = more (fin.len (before es kept)) (fin.len (members_by staged_score es)) (len_before es kept apart le) (len_members staged_score es apart);
  one_way = inr refl;
}
  where
    more : (a b : ℕ) → a ≡ kept → b ≡ length es → b + 0 ≡ a + added
    more a b i j = omega arith

    count_of : (m a b : ℕ) → m + a ≡ b → a ≡ kept → b ≡ length es → added ≡ m
    count_of m a b h i j = omega arith

    by : (c : Bool) → (c ≡ true → members_by staged_score es ≢ before es kept) → (c ≡ false → members_by staged_score es ≡ before es kept) → IsTrue c ↔ (members_by staged_score es ≢ before es kept)
    by true o s = (λ _. o refl, λ _. refl)
    by false o s = (λ h. absurd (true≢false (sym h)), λ ne. absurd (ne (s refl)))

-- with more entries the set is another one
pub grown_apart : (es : List Entry) (kept : ℕ) → IsDistinct same_bytes (keys_of es) → kept < length es → members_by staged_score es ≡ before es kept → ⊥
grown_apart es kept apart lt same =
    let a : fin.len (members_by staged_score es) ≡ fin.len (before es kept) = ap fin.len same in
    let b : fin.len (members_by staged_score es) ≡ length es = len_members staged_score es apart in
    let d : fin.len (before es kept) ≡ kept = len_before es kept apart (omega arith) in
    absurd (omega arith)

-- and with no more it is the one that the entries hold
pub before_all : (es : List Entry) (kept : ℕ) → kept ≡ length es → before es kept ≡ members_by current_score es
before_all es kept all = ap (λ (l : List Entry). members_by current_score l) (ap (λ n. take n es) all ∙ take-length es)

-- the front of what was staged is the set that was there
pub before_grown : (old new : List Entry) (kept : ℕ) → kept ≡ length old → Grows old new → before new kept ≡ members_by current_score old
before_grown old new kept is grows =
    ap (λ (rows : List (List ℕ × ℤ)). fin.from_entries rows) (rows_take current_score kept new ∙ ap (λ n. take n (rows_by current_score new)) is ∙ grows.front)
