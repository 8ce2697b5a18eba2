-- Members taken out, one after the other.
use Rattle.std.proofs.Common.{◌≡◌, ℕ, ◌+◌, ◌-◌, ◌<◌, ◌≤◌, ◌||◌, ℤ, Bool, true, false, cond, not, List, [], ◌∷◌, ◌++◌, length, suc, slice_get, Option, None, Some, option_map, is_some, unwrap_or, refl, sym, ap, subst, ◌∙◌, arith, zero, true≢false}
use Rattle.std.specs.List.{All, AllByRecursion, IsDistinct, list_any}
use Rattle.std.specs.Map.{keys_of}
use Rattle.std.specs.Str.{bytes_eq}
use Rattle.std.specs.Ordering.{eq_by_cmp, nat_cmp, is_eq, match_ordering}
use Rattle.std.specs.Bool.{OnFalse}
use Rattle.std.specs.Cmp.{eq_by_cmp_equiv}
use Rattle.std.proofs.lemmas.Cmp.{nat_cmp_total}
use Rattle.std.specs.FinMap.{nat_cmp-IsAntisymmetric}
use Rattle.std.specs.declared.cmp.Ordering.{Ordering}
use Rattle.std.specs.declared.cmp.Ordering.TheVariants.{Less, Equal, Greater}
use Rattle.std.specs.Cmp.Lexicographic.{nat_list_eq_equiv, bytes_decides}
use Rattle.std.specs.FinMap as fin
use Rattle.std.specs.BTreeMap.Range.{IsLtBy}
use Rattle.std.specs.BTreeSet.{BTreeSet, contains, insert_key}
use Rattle.std.proofs.lemmas.Map.Text.{is_eq-slice_cmp}
use Rattle.std.proofs.lemmas.Map.Entries.{lookup_from_place}
use Rattle.std.proofs.lemmas.Bool.Decides.{nat_tests}
use Rattle.std.proofs.lemmas.List.{length-map}
use Rattle.std.proofs.lemmas.Option.{slice_get-map, slice_get_within}
use Rattle.zset_core.specs.SortedSet.{Members, bytes_cmp}
use Rattle.zset_core.specs.Semantics.{remove_all}
use Rattle.sorted_sets.specs.MembersWithStagedScores.{Entry, current_score, members_by, name_at, names_at, slots, slot_at, same_bytes, IsWithin}
use Rattle.sorted_sets.specs.RemovedMemberPlaces.{AreFoundPlaces}
use Rattle.sorted_sets.specs.declared.set.members_with_staged_scores.ScoreSlot.{ScoreSlot}
use Rattle.sorted_sets.proofs.Bridge.{total, exact, same_equiv, get_members}

ties : (q k : List ℕ) → eq_by_cmp bytes_cmp q k ≡ bytes_eq q k
ties q k = is_eq-slice_cmp q k

pub get-remove_all : (m : Members) (ks : List (List ℕ)) (q : List ℕ) → fin.get (remove_all m ks) q ≡ cond (list_any (bytes_eq q) ks) None (fin.get m q)
get-remove_all m [] q = refl
get-remove_all m (k ∷ ks) q =
    get-remove_all (fin.remove m k) ks q
    ∙ ap (cond (list_any (bytes_eq q) ks) None) (fin.get-remove total m k q ∙ ap (λ b. cond b None (fin.get m q)) (ties q k))
    ∙ by (list_any (bytes_eq q) ks) (bytes_eq q k)
  where
    by : (a b : Bool) → cond a None (cond b None (fin.get m q)) ≡ cond (b || a) None (fin.get m q)
    by true true = refl
    by true false = refl
    by false true = refl
    by false false = refl

pub remove_absent : (m : Members) (k : List ℕ) → fin.get m k ≡ None → fin.remove m k ≡ m
remove_absent m k absent = fin.same_map total exact _ _ (λ q. fin.get-remove total m k q ∙ by q (eq_by_cmp bytes_cmp q k) (ties q k))
  where
    by : (q : List ℕ) (b : Bool) → b ≡ bytes_eq q k → cond b None (fin.get m q) ≡ fin.get m q
    by q true e = sym (ap (fin.get m) ((bytes_decides q k).0 (sym e)) ∙ absent)
    by q false e = refl

remove_all-push : (m : Members) (ks : List (List ℕ)) (k : List ℕ) → remove_all m (ks ++ k ∷ []) ≡ fin.remove (remove_all m ks) k
remove_all-push m [] k = refl
remove_all-push m (x ∷ ks) k = remove_all-push (fin.remove m x) ks k

pub new_one : (added there : Bool) → added ≡ not there → added ≡ true → there ≡ false
new_one added true e h = cc
new_one added false e h = refl

-- a name more among those that leave
remove_all-more : (m : Members) (ks ks' : List (List ℕ)) (k : List ℕ) → ((r : List ℕ) → list_any (bytes_eq r) ks' ≡ (list_any (bytes_eq r) ks || bytes_eq r k)) → remove_all m ks' ≡ fin.remove (remove_all m ks) k
remove_all-more m ks ks' k more = fin.same_map total exact _ _ (λ r.
    get-remove_all m ks' r ∙ ap (λ b. cond b None (fin.get m r)) (more r) ∙ by (fin.get m r) (list_any (bytes_eq r) ks) (bytes_eq r k)
    ∙ sym (fin.get-remove total (remove_all m ks) k r ∙ ap (λ b. cond b None (fin.get (remove_all m ks) r)) (ties r k) ∙ ap (λ (o : Option ℤ). cond (bytes_eq r k) None o) (get-remove_all m ks r)))
  where
    by : (o : Option ℤ) (a b : Bool) → cond (a || b) None o ≡ cond b None (cond a None o)
    by o true true = refl
    by o true false = refl
    by o false b = refl

IsWithin-put : (n p : ℕ) (ks : List ℕ) → p < n → IsWithin n ks → IsWithin n (insert_key nat_cmp ks p)
IsWithin-put n p [] lt h = (lt, tt)
IsWithin-put n p (x ∷ xs) lt h = by (nat_cmp p x) (IsWithin-put n p xs lt h.1)
  where
    by : (o : Ordering) → IsWithin n (insert_key nat_cmp xs p) → IsWithin n (match_ordering o (p ∷ x ∷ xs) (x ∷ xs) (x ∷ insert_key nat_cmp xs p))
    by Less rest = (lt, h)
    by Equal rest = h
    by Greater rest = (h.0, rest)

below_here : (k p : ℕ) → IsLtBy nat_cmp k p → k < p
below_here k p h = grind (arith, nat_tests)

pub IsWithin-before : (n p : ℕ) (ks : List ℕ) → p ≤ n → All (λ (k : ℕ). IsLtBy nat_cmp k p) ks → IsWithin n ks
IsWithin-before n p [] le below = tt
IsWithin-before n p (k ∷ ks) le below = (omega (arith, below_here k p (below 0 0 (omega arith))), IsWithin-before n p ks le (λ i d lt. below (suc i) d (omega (arith, lt))))

-- to take out a member is to have one less
one_less : (m : Members) (q : List ℕ) → is_some (fin.get m q) ≡ true → 1 + fin.len (fin.remove m q) ≡ fin.len m
one_less m q there = ap (λ n. 1 + n) (fin.len-remove total m q ∙ ap (λ b. cond b (fin.len m - 1) (fin.len m)) there) ∙ back (fin.len m) (λ none.
    true≢false (sym there ∙ ap is_some (ap (λ (n : Members). fin.get n q) (fin.empty_of_len m none) ∙ fin.get-empty bytes_cmp q)))
  where
    back : (n : ℕ) → (n ≡ 0 → ⊥) → 1 + (n - 1) ≡ n
    back zero h = absurd (h refl)
    back (suc n) h = omega arith

-- a name that is no member, or was gathered, changes nothing
pub gone_absent : (es : List Entry) (ks : List (List ℕ)) (q : List ℕ) → slot_at es q ≡ None → remove_all (members_by current_score es) ks ≡ fin.remove (remove_all (members_by current_score es) ks) q
gone_absent es ks q absent = sym (remove_absent (remove_all (members_by current_score es) ks) q
    (get-remove_all (members_by current_score es) ks q ∙ ap (cond (list_any (bytes_eq q) ks) None) (get_members current_score es q ∙ ap (option_map current_score) absent) ∙ by (list_any (bytes_eq q) ks)))
  where
    by : (b : Bool) → ◌≡◌ {A = Option ℤ} (cond b None None) None
    by true = refl
    by false = refl

abbrev pub slot_of : Entry → List ℕ × ScoreSlot
slot_of e = (e.0, e.1)

-- entries at two places have different members
pub none_there : (x : List ℕ) (es : List Entry) (j : ℕ) (q : List ℕ) (t : ScoreSlot) → AllByRecursion (λ y. same_bytes x y ≡ false) (keys_of es) → slice_get (slots es) j ≡ Some (q, t) → bytes_eq x q ≡ false
none_there x [] j q t h at = cc
none_there x (e ∷ es) zero q t h at = let is : slot_of e ≡ (q, t) = cc in ap (bytes_eq x) (sym (ap (λ (p : List ℕ × ScoreSlot). p.0) is)) ∙ h.0
none_there x (e ∷ es) (suc j) q t h at = none_there x es j q t h.1 at

pub one_place : (es : List Entry) (i j : ℕ) (q : List ℕ) (s t : ScoreSlot) → IsDistinct same_bytes (keys_of es) → slice_get (slots es) i ≡ Some (q, s) → slice_get (slots es) j ≡ Some (q, t) → i ≡ j
unfolding IsDistinct
one_place [] i j q s t d a b = cc
one_place (e ∷ es) zero zero q s t d a b = refl
one_place (e ∷ es) zero (suc j) q s t d a b =
    let is : slot_of e ≡ (q, s) = cc in
    absurd (true≢false (sym (nat_list_eq_equiv.refl q) ∙ ap (λ k. bytes_eq k q) (sym (ap (λ (p : List ℕ × ScoreSlot). p.0) is)) ∙ none_there e.0 es j q t d.0 b))
one_place (e ∷ es) (suc i) zero q s t d a b =
    let is : slot_of e ≡ (q, t) = cc in
    absurd (true≢false (sym (nat_list_eq_equiv.refl q) ∙ ap (λ k. bytes_eq k q) (sym (ap (λ (p : List ℕ × ScoreSlot). p.0) is)) ∙ none_there e.0 es i q s d.0 a))
one_place (e ∷ es) (suc i) (suc j) q s t d a b = ap suc (one_place es i j q s t d.1 a b)

pub slot_here : (es : List Entry) (p : ℕ) (q : List ℕ) (s : ScoreSlot) → IsDistinct same_bytes (keys_of es) → slice_get (slots es) p ≡ Some (q, s) → slot_at es q ≡ Some s
slot_here es p q s apart at = by (slice_get es p) refl (sym (slice_get-map slot_of es p) ∙ at)
  where
    by : (o : Option Entry) → slice_get es p ≡ o → option_map slot_of o ≡ Some (q, s) → slot_at es q ≡ Some s
    by None is h = cc
    by (Some e) is h =
        let same : slot_of e ≡ (q, s) = cc in
        ap (slot_at es) (sym (ap (λ (p : List ℕ × ScoreSlot). p.0) same)) ∙ lookup_from_place same_equiv es p e.0 e.1 apart is ∙ ap (λ (p : List ℕ × ScoreSlot). Some p.1) same

-- the member at a place
pub name_here : (es : List Entry) (p : ℕ) (q : List ℕ) (s : ScoreSlot) → slice_get (slots es) p ≡ Some (q, s) → name_at es p ≡ q
name_here es p q s at = by (slice_get es p) (sym (slice_get-map slot_of es p) ∙ at)
  where
    by : (o : Option Entry) → option_map slot_of o ≡ Some (q, s) → unwrap_or (option_map (λ (e : Entry). e.0) o) [] ≡ q
    by None h = cc
    by (Some e) h = let is : slot_of e ≡ (q, s) = cc in ap (λ (x : List ℕ × ScoreSlot). x.0) is

-- a place more among those found is a name more
pub any_put : (es : List Entry) (t : List ℕ → Bool) (ks : List ℕ) (p : ℕ) → list_any t (names_at es (insert_key nat_cmp ks p)) ≡ (list_any t (names_at es ks) || t (name_at es p))
any_put es t [] p = by (t (name_at es p))
  where
    by : (b : Bool) → (b || false) ≡ b
    by true = refl
    by false = refl
any_put es t (x ∷ xs) p = by (nat_cmp p x) refl (any_put es t xs p)
  where
    turned : (a b c : Bool) → (a || (b || c)) ≡ ((b || c) || a)
    turned true true c = refl
    turned true false true = refl
    turned true false false = refl
    turned false true c = refl
    turned false false true = refl
    turned false false false = refl

    grouped : (a b c : Bool) → (a || (b || c)) ≡ ((a || b) || c)
    grouped true b c = refl
    grouped false b c = refl

    twice : (a b : Bool) → (a || b) ≡ ((a || b) || a)
    twice true b = refl
    twice false true = refl
    twice false false = refl

    by : (o : Ordering) → nat_cmp p x ≡ o → list_any t (names_at es (insert_key nat_cmp xs p)) ≡ (list_any t (names_at es xs) || t (name_at es p))
        → list_any t (names_at es (match_ordering o (p ∷ x ∷ xs) (x ∷ xs) (x ∷ insert_key nat_cmp xs p))) ≡ (list_any t (names_at es (x ∷ xs)) || t (name_at es p))
    by Less e rest = turned (t (name_at es p)) (t (name_at es x)) (list_any t (names_at es xs))
    by Equal e rest =
        twice (t (name_at es x)) (list_any t (names_at es xs)) ∙ ap (λ (k : ℕ). (t (name_at es x) || list_any t (names_at es xs)) || t (name_at es k)) (sym (nat_cmp-IsAntisymmetric p x e))
    by Greater e rest = ap (λ (b : Bool). t (name_at es x) || b) rest ∙ grouped (t (name_at es x)) (list_any t (names_at es xs)) (t (name_at es p))

pub gone_put : (es : List Entry) (m : Members) (ks ks' : List ℕ) (p : ℕ) (q : List ℕ) → name_at es p ≡ q → ks' ≡ insert_key nat_cmp ks p → remove_all m (names_at es ks') ≡ fin.remove (remove_all m (names_at es ks)) q
gone_put es m ks ks' p q is keys = remove_all-more m (names_at es ks) (names_at es ks') q (λ r.
    ap (λ (l : List ℕ). list_any (bytes_eq r) (names_at es l)) keys ∙ any_put es (bytes_eq r) ks p ∙ ap (λ (k : List ℕ). list_any (bytes_eq r) (names_at es ks) || bytes_eq r k) is)

-- the set without those found
abbrev pub left : List Entry → List ℕ → Members
left es ks = remove_all (members_by current_score es) (names_at es ks)

pub AreFoundPlaces-put : (es : List Entry) (seen seen' : BTreeSet ℕ) (p : ℕ) (q : List ℕ) (s : ScoreSlot)
    → IsDistinct same_bytes (keys_of es) → slice_get (slots es) p ≡ Some (q, s) → contains nat_cmp seen p ≡ false
    → ((j : ℕ) → contains nat_cmp seen' j ≡ cond (is_eq (nat_cmp p j)) true (contains nat_cmp seen j)) → seen'.keys ≡ insert_key nat_cmp seen.keys p → length seen'.keys ≡ length seen.keys + 1
    → AreFoundPlaces es seen → AreFoundPlaces es seen'
AreFoundPlaces-put es seen seen' p q s apart at new after keys len old = record {
  same = λ j r t there. after j ∙ here j r t there (is_eq (nat_cmp p j)) refl
      ∙ sym (ap (λ (l : List ℕ). list_any (bytes_eq r) (names_at es l)) keys ∙ any_put es (bytes_eq r) seen.keys p ∙ ap (λ k. list_any (bytes_eq r) (names_at es seen.keys) || bytes_eq r k) (name_here es p q s at));
  count = one_more (length seen.keys) (length seen'.keys) (fin.len (fin.remove (left es seen.keys) q)) (fin.len (left es seen.keys)) (fin.len (left es seen'.keys)) (fin.len (members_by current_score es))
      len (one_less (left es seen.keys) q in_before) (ap fin.len (gone_put es (members_by current_score es) seen.keys seen'.keys p q (name_here es p q s at) keys)) old.count;
  within = subst (IsWithin (length es)) (sym keys) (IsWithin-put (length es) p seen.keys inside old.within);
}
  where
    inside : p < length es
    inside = subst (λ (n : ℕ). p < n) (length-map es slot_of) (slice_get_within (slots es) p (q, s) at)

    in_before : is_some (fin.get (left es seen.keys) q) ≡ true
    in_before = ap is_some (get-remove_all (members_by current_score es) (names_at es seen.keys) q ∙ ap (λ b. cond b None (fin.get (members_by current_score es) q)) (sym (old.same p q s at) ∙ new)
        ∙ get_members current_score es q ∙ ap (option_map current_score) (slot_here es p q s apart at))

    one_more : (a a' b n m end : ℕ) → a' ≡ a + 1 → 1 + b ≡ n → m ≡ b → a + n ≡ end → a' + m ≡ end
    one_more a a' b n m end e f g h = omega arith

    or_true : (b : Bool) → true ≡ (b || true)
    or_true true = refl
    or_true false = refl

    or_false : (b : Bool) → b ≡ (b || false)
    or_false true = refl
    or_false false = refl

    here : (j : ℕ) (r : List ℕ) (t : ScoreSlot) → slice_get (slots es) j ≡ Some (r, t) → (b : Bool) → is_eq (nat_cmp p j) ≡ b → cond b true (contains nat_cmp seen j) ≡ (list_any (bytes_eq r) (names_at es seen.keys) || bytes_eq r q)
    here j r t there true e =
        let same : p ≡ j = nat_cmp-IsAntisymmetric p j (tie (nat_cmp p j) e) in
        let both : ◌≡◌ {A = Option (List ℕ × ScoreSlot)} (Some (q, s)) (Some (r, t)) = sym at ∙ ap (slice_get (slots es)) same ∙ there in
        let pair : ◌≡◌ {A = List ℕ × ScoreSlot} (q, s) (r, t) = cc in
        or_true (list_any (bytes_eq r) (names_at es seen.keys))
        ∙ ap (λ b. list_any (bytes_eq r) (names_at es seen.keys) || b) (sym (ap (λ k. bytes_eq r k) (ap (λ (x : List ℕ × ScoreSlot). x.0) pair) ∙ nat_list_eq_equiv.refl r))
      where
        tie : (o : Ordering) → is_eq o ≡ true → o ≡ Equal
        tie Less h = cc
        tie Equal h = refl
        tie Greater h = cc
    here j r t there false e =
        old.same j r t there ∙ or_false (list_any (bytes_eq r) (names_at es seen.keys)) ∙ ap (λ b. list_any (bytes_eq r) (names_at es seen.keys) || b) (sym (other (bytes_eq r q) refl))
      where
        other : (b : Bool) → bytes_eq r q ≡ b → bytes_eq r q ≡ false
        other false h = h
        other true h =
            let key : r ≡ q = (bytes_decides r q).0 h in
            let place : j ≡ p = one_place es j p q t s apart (there ∙ ap (λ k. Some (k, t)) key) at in
            absurd (true≢false (sym (ap (λ k. is_eq (nat_cmp p k)) place ∙ self p) ∙ e))
          where
            self : (n : ℕ) → is_eq (nat_cmp n n) ≡ true
            self n = (eq_by_cmp_equiv nat_cmp_total).refl n

AreFoundPlaces-kept : (es : List Entry) (seen seen' : BTreeSet ℕ) → seen'.keys ≡ seen.keys → AreFoundPlaces es seen → AreFoundPlaces es seen'
AreFoundPlaces-kept es seen seen' keys old = record {
  same = λ j r t there. ap (λ (l : List ℕ). list_any (λ k. is_eq (nat_cmp j k)) l) keys ∙ old.same j r t there ∙ ap (λ (l : List ℕ). list_any (bytes_eq r) (names_at es l)) (sym keys);
  count = ap (λ (l : List ℕ). length l + fin.len (left es l)) keys ∙ old.count;
  within = subst (IsWithin (length es)) (sym keys) old.within;
}

-- a place was put among those found: it was new, or it was there
pub AreFoundPlaces-after : (es : List Entry) (seen seen' : BTreeSet ℕ) (p : ℕ) (q : List ℕ) (s : ScoreSlot) (added : Bool)
    → IsDistinct same_bytes (keys_of es) → slice_get (slots es) p ≡ Some (q, s) → added ≡ not (contains nat_cmp seen p)
    → ((j : ℕ) → contains nat_cmp seen' j ≡ cond (is_eq (nat_cmp p j)) true (contains nat_cmp seen j)) → seen'.keys ≡ insert_key nat_cmp seen.keys p → OnFalse added (seen'.keys ≡ seen.keys)
    → length seen'.keys ≡ length seen.keys + cond {A = ℕ} added 1 0 → AreFoundPlaces es seen → AreFoundPlaces es seen'
AreFoundPlaces-after es seen seen' p q s true apart at new after keys kept len old = AreFoundPlaces-put es seen seen' p q s apart at (new_one true (contains nat_cmp seen p) new refl) after keys len old
AreFoundPlaces-after es seen seen' p q s false apart at new after keys kept len old = AreFoundPlaces-kept es seen seen' kept old

-- ---- members taken out by their places
-- the last of some members goes first
pub last_first : (es es' : List Entry) (m m' : Members) (ks rest : List ℕ) (p : ℕ) → ks ≡ rest ++ p ∷ [] → m' ≡ fin.remove m (name_at es p) → names_at es' rest ≡ names_at es rest
    → remove_all m' (names_at es' rest) ≡ remove_all m (names_at es ks)
last_first es es' m m' ks rest p is gone same =
    let n = name_at es p in
    ap (λ (x : Members). remove_all x (names_at es' rest)) gone ∙ ap (λ (l : List (List ℕ)). remove_all (fin.remove m n) l) same
    ∙ remove_all-more m (names_at es rest) (n ∷ names_at es rest) n (λ r. turned (bytes_eq r n) (list_any (bytes_eq r) (names_at es rest)))
    ∙ sym (ap (λ (l : List ℕ). remove_all m (names_at es l)) is ∙ ap (λ (l : List (List ℕ)). remove_all m l) (names-push rest) ∙ remove_all-push m (names_at es rest) n)
  where
    turned : (a b : Bool) → (a || b) ≡ (b || a)
    turned true true = refl
    turned true false = refl
    turned false true = refl
    turned false false = refl

    names-push : (l : List ℕ) → names_at es (l ++ p ∷ []) ≡ names_at es l ++ name_at es p ∷ []
    names-push [] = refl
    names-push (x ∷ l) = ap (λ (k : List (List ℕ)). name_at es x ∷ k) (names-push l)

-- places below another one have the same members where all entries before that one have
pub names_before : (es es' : List Entry) (p : ℕ) (ks : List ℕ) → ((j : ℕ) → j < p → name_at es' j ≡ name_at es j) → All (λ (k : ℕ). IsLtBy nat_cmp k p) ks → names_at es' ks ≡ names_at es ks
names_before es es' p [] same below = refl
names_before es es' p (k ∷ ks) same below =
    ap (λ (n : List ℕ). n ∷ names_at es' ks) (same k (below_here k p (below 0 0 (omega arith)))) ∙ ap (λ (l : List (List ℕ)). name_at es k ∷ l) (names_before es es' p ks same (λ i d lt. below (suc i) d (omega (arith, lt))))
