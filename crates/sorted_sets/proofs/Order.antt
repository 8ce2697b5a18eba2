-- Listings: a sorted list with the same pairs is the listing.
use Rattle.std.proofs.Common.{◌≡◌, ℕ, ◌+◌, ℤ, Bool, true, false, cond, ◌&&◌, ◌||◌, List, [], ◌∷◌, map, filter, length, Option, None, Some, option_map, is_some, refl, sym, ap, subst, ◌∙◌, arith, get_or, ◌++◌, slice_get, drop, zero, suc, append_assoc, add-one}
use Rattle.std.specs.List.{AllByRecursion, IsDistinct, list_any}
use Rattle.std.specs.List.Sorted.{IsStrictlySortedBy, IsPermutation, IsSorted}
use Rattle.std.specs.Map.{lookup, keys_of}
use Rattle.std.specs.Str.{bytes_eq}
use Rattle.std.specs.Prelude.{T}
use Rattle.std.specs.Ordering.{eq_by_cmp, int_cmp, is_eq, is_lt, ordering_then, ordering_reverse}
use Rattle.std.specs.declared.cmp.Ordering.{Ordering}
use Rattle.std.specs.declared.cmp.Ordering.TheVariants.{Less, Equal, Greater}
use Rattle.std.specs.Cmp.{IsTotalOrder, eq_by_cmp_equiv}
use Rattle.std.specs.Cmp.Lexicographic.{nat_list_eq_equiv}
use Rattle.std.specs.FinMap as fin
use Rattle.std.specs.FinMap.{IsAntisymmetric, is_sorted, find}
use Rattle.std.specs.FinMap.Entries.{below_all, is_some-find}
use Rattle.std.proofs.lemmas.Cmp.{int_cmp_total, then_total, on_total}
use Rattle.std.proofs.lemmas.Map.Lookups.{exact_pairs, exact_signed, exact_bytes}
use Rattle.std.proofs.lemmas.Map.Text.{is_eq-slice_cmp}
use Rattle.std.proofs.lemmas.List.{map-append}
use Rattle.std.proofs.lemmas.Map.Keys.{sorted_from_all_adjacent, apart_from_distinct, IsDistinct-IsPermutation, IsDistinct-head, IsDistinct-tail, IsDistinct-cons}
use Rattle.std.proofs.lemmas.List.Sorted.{IsPermutation-map, list_any-IsPermutation}
use Rattle.sorted_sets.proofs.Tests.{first, second}
use Rattle.zset_core.specs.SortedSet.{Members, Pair, bytes_cmp, pair_cmp, pairs, marks, listing, whole}
use Rattle.sorted_sets.specs.MembersWithStagedScores.{Entry, current_score, rows_by, members_by, slot_at, same_bytes}
use Rattle.sorted_sets.specs.BorrowedListingPairs.{Shown, entry_pairs, pair_of, pairs_of, shown_cmp}
use Rattle.sorted_sets.proofs.Bridge.{get_members, total}

pub pair_total : IsTotalOrder pair_cmp
pair_total = then_total (on_total (λ p. p.0) int_cmp_total) (on_total (λ p. p.1) total)

pub pair_exact : IsAntisymmetric pair_cmp
pair_exact = exact_pairs int_cmp bytes_cmp exact_signed exact_bytes

-- the test of one pair
abbrev pub is_pair : Pair → Pair → Bool
is_pair q p = eq_by_cmp pair_cmp q p

pub keys_marks : (l : List Pair) → map (λ e. e.0) (marks l) ≡ l
keys_marks [] = refl
keys_marks (p ∷ l) = ap (λ k. p ∷ k) (keys_marks l)

below_marks : (p : Pair) (l : List Pair) → AllByRecursion (λ y. pair_cmp p y ≡ Less) l → T (below_all pair_cmp p (marks l))
below_marks p [] h = tt
below_marks p (x ∷ l) h = subst (λ o. T (is_lt o && below_all pair_cmp p (marks l))) (sym h.0) (below_marks p l h.1)

sorted_marks : (l : List Pair) → IsStrictlySortedBy pair_cmp l → T (is_sorted pair_cmp (marks l))
unfolding IsStrictlySortedBy
sorted_marks [] h = tt
sorted_marks (p ∷ l) h = both (below_all pair_cmp p (marks l)) (is_sorted pair_cmp (marks l)) (below_marks p l h.0) (sorted_marks l h.1)
  where
    both : (a b : Bool) → T a → T b → T (a && b)
    both true b x y = y
    both false b x y = x

marked : (x : Option (Unit {0})) → x ≡ cond (is_some x) (Some tt) None
marked None = refl
marked (Some u) = refl

pub find_marks : (q : Pair) (l : List Pair) → find pair_cmp q (marks l) ≡ cond (list_any (is_pair q) l) (Some tt) None
find_marks q l = marked (find pair_cmp q (marks l)) ∙ ap (λ b. cond b (Some tt) None) (is_some-find pair_cmp q (marks l) ∙ ap (list_any (is_pair q)) (keys_marks l))

pub listing_is : (t : ℤ → Bool) (m : Members) (l : List Pair) → IsStrictlySortedBy pair_cmp l → ((q : Pair) → list_any (is_pair q) l ≡ list_any (is_pair q) (filter (λ p. t p.0) (pairs m))) → l ≡ listing t m
unfolding listing
listing_is t m l rises alike =
    let A : List (Pair × Unit {0}) = marks l in
    let B : List (Pair × Unit {0}) = marks (filter (λ p. t p.0) (pairs m)) in
    let sorted = sorted_marks l rises in
    let same : fin.from_sorted {R = pair_cmp} A ≡ fin.from_entries {R = pair_cmp} B = fin.same_map pair_total pair_exact (fin.from_sorted A) (fin.from_entries B) (λ q.
    fin.get-from_sorted pair_cmp A q sorted ∙ find_marks q l ∙ ap (λ b. cond b (Some tt) None) (alike q) ∙ sym (fin.get-from_entries pair_total B q ∙ find_marks q (filter (λ p. t p.0) (pairs m)))) in
    sym (keys_marks l) ∙ ap (map (λ (e : Pair × Unit {0}). e.0)) (sym (fin.entries-from_sorted pair_cmp A sorted)) ∙ ap fin.keys same

-- ---- which pairs are there
abbrev pub is_same : Option ℤ → ℤ → Bool
is_same None s = false
is_same (Some x) s = is_eq (int_cmp s x)

then_eq : (a b : Ordering) → is_eq (ordering_then a b) ≡ (is_eq a && is_eq b)
then_eq Less b = refl
then_eq Equal b = refl
then_eq Greater b = refl

and_false : (a : Bool) → (a && false) ≡ false
and_false true = refl
and_false false = refl

and_true : (a : Bool) → (a && true) ≡ a
and_true true = refl
and_true false = refl

or_false : (a : Bool) → (a || false) ≡ a
or_false true = refl
or_false false = refl

-- one pair, by its bytes and its score
is_pair_by : (q : Pair) (s : ℤ) (k : List ℕ) → is_pair q (s, k) ≡ (is_eq (int_cmp q.0 s) && bytes_eq q.1 k)
is_pair_by q s k = then_eq (int_cmp q.0 s) (bytes_cmp q.1 k) ∙ ap (λ b. is_eq (int_cmp q.0 s) && b) (is_eq-slice_cmp q.1 k)

none_there : (es : List (List ℕ × ℤ)) (q : Pair) (k : List ℕ) → bytes_eq q.1 k ≡ true → AllByRecursion (λ y. bytes_eq k y ≡ false) (keys_of es) → list_any (is_pair q) (map (λ e. (e.1, e.0)) es) ≡ false
none_there [] q k same h = refl
none_there (e ∷ es) q k same h =
    ap (λ b. b || list_any (is_pair q) (map (λ e. (e.1, e.0)) es)) (is_pair_by q e.1 e.0 ∙ ap (λ b. is_eq (int_cmp q.0 e.1) && b) (nat_list_eq_equiv.congr q.1 k e.0 same ∙ h.0) ∙ and_false (is_eq (int_cmp q.0 e.1)))
    ∙ none_there es q k same h.1

pub has_pair : (es : List (List ℕ × ℤ)) (q : Pair) → IsDistinct bytes_eq (keys_of es) → list_any (is_pair q) (map (λ e. (e.1, e.0)) es) ≡ is_same (lookup (bytes_eq q.1) es) q.0
unfolding IsDistinct
has_pair [] q d = refl
has_pair (e ∷ es) q d = by (bytes_eq q.1 e.0) refl (has_pair es q d.1) (λ y. none_there es q e.0 y d.0)
  where
    by : (b : Bool) → bytes_eq q.1 e.0 ≡ b → list_any (is_pair q) (map (λ e. (e.1, e.0)) es) ≡ is_same (lookup (bytes_eq q.1) es) q.0
        → (bytes_eq q.1 e.0 ≡ true → list_any (is_pair q) (map (λ e. (e.1, e.0)) es) ≡ false)
        → list_any (is_pair q) (map (λ e. (e.1, e.0)) (e ∷ es)) ≡ is_same (cond b (Some e.1) (lookup (bytes_eq q.1) es)) q.0
    by true y rest none = ap (λ b. b || list_any (is_pair q) (map (λ e. (e.1, e.0)) es)) (is_pair_by q e.1 e.0 ∙ ap (λ b. is_eq (int_cmp q.0 e.1) && b) y ∙ and_true (is_eq (int_cmp q.0 e.1)))
        ∙ ap (λ b. is_eq (int_cmp q.0 e.1) || b) (none y) ∙ or_false (is_eq (int_cmp q.0 e.1))
    by false n rest none = ap (λ b. b || list_any (is_pair q) (map (λ e. (e.1, e.0)) es)) (is_pair_by q e.1 e.0 ∙ ap (λ b. is_eq (int_cmp q.0 e.1) && b) n ∙ and_false (is_eq (int_cmp q.0 e.1))) ∙ rest

-- the keys of a finite map are apart
below_apart : (k : List ℕ) (es : List (List ℕ × ℤ)) → T (below_all bytes_cmp k es) → AllByRecursion (λ y. bytes_eq k y ≡ false) (keys_of es)
below_apart k [] h = tt
below_apart k (e ∷ es) h = (sym (is_eq-slice_cmp k e.0) ∙ less (bytes_cmp k e.0) (first (is_lt (bytes_cmp k e.0)) (below_all bytes_cmp k es) h), below_apart k es (second (is_lt (bytes_cmp k e.0)) (below_all bytes_cmp k es) h))
  where
    less : (o : Ordering) → T (is_lt o) → is_eq o ≡ false
    less Less h = refl
    less Equal h = absurd h
    less Greater h = refl

sorted_apart : (es : List (List ℕ × ℤ)) → T (is_sorted bytes_cmp es) → IsDistinct bytes_eq (keys_of es)
unfolding IsDistinct
sorted_apart [] h = tt
sorted_apart (e ∷ es) h = (below_apart e.0 es (first (below_all bytes_cmp e.0 es) (is_sorted bytes_cmp es) h), sorted_apart es (second (below_all bytes_cmp e.0 es) (is_sorted bytes_cmp es) h))

raw_apart : (es : List (List ℕ × ℤ)) → IsDistinct bytes_eq (keys_of es) → IsDistinct is_pair (map (λ e. (e.1, e.0)) es)
unfolding IsDistinct
raw_apart [] h = tt
raw_apart (e ∷ es) h = (heads e es h.0, raw_apart es h.1)
  where
    heads : (e : List ℕ × ℤ) (es : List (List ℕ × ℤ)) → AllByRecursion (λ k. bytes_eq e.0 k ≡ false) (keys_of es) → AllByRecursion (λ p. is_pair (e.1, e.0) p ≡ false) (map (λ e. (e.1, e.0)) es)
    heads e [] h = tt
    heads e (x ∷ es) h = (is_pair_by (e.1, e.0) x.1 x.0 ∙ ap (λ b. is_eq (int_cmp e.1 x.1) && b) h.0 ∙ and_false (is_eq (int_cmp e.1 x.1)), heads e es h.1)

-- the pairs of a set are apart
pub pairs_apart : (m : Members) → IsDistinct is_pair (pairs m)
unfolding pairs
pairs_apart m = raw_apart (fin.entries m) (sorted_apart (fin.entries m) (fin.entries_sorted m))

-- pairs that tie are one pair
pub is_equal : (q p : Pair) → is_pair q p ≡ true → q ≡ p
is_equal q p h = pair_exact q p (tie (pair_cmp q p) h)
  where
    tie : (o : Ordering) → is_eq o ≡ true → o ≡ Equal
    tie Less e = cc
    tie Equal e = refl
    tie Greater e = cc

find_raw : (es : List (List ℕ × ℤ)) (q : List ℕ) → find bytes_cmp q es ≡ lookup (bytes_eq q) es
find_raw [] q = refl
find_raw (e ∷ es) q = ap (λ b. cond b (Some e.1) (find bytes_cmp q es)) (is_eq-slice_cmp q e.0) ∙ ap (cond (bytes_eq q e.0) (Some e.1)) (find_raw es q)

-- a pair is there just where its member has its score
pub has_of_pairs : (m : Members) (q : Pair) → list_any (is_pair q) (pairs m) ≡ is_same (fin.get m q.1) q.0
unfolding pairs
has_of_pairs m q = has_pair (fin.entries m) q (sorted_apart (fin.entries m) (fin.entries_sorted m)) ∙ ap (λ r. is_same r q.0) (sym (fin.get-entries m q.1 ∙ find_raw (fin.entries m) q.1))

-- ---- the program's rows
-- neighbours that do not fall and do not tie rise
pub rises_step : (a b : Pair) → is_lt (pair_cmp b a) ≡ false → is_pair a b ≡ false → pair_cmp a b ≡ Less
rises_step a b up ne = by (pair_cmp b a) refl (pair_total.antisymm a b)
  where
    by : (o : Ordering) → pair_cmp b a ≡ o → pair_cmp a b ≡ ordering_reverse (pair_cmp b a) → pair_cmp a b ≡ Less
    by Less e r = absurd (no (sym (ap is_lt e) ∙ up))
      where
        no : true ≡ false → ⊥
        no h = cc
    by Equal e r = absurd (no (sym (ap is_eq (r ∙ ap ordering_reverse e)) ∙ ne))
      where
        no : true ≡ false → ⊥
        no h = cc
    by Greater e r = r ∙ ap ordering_reverse e

-- what a sort leaves, where no two pairs tie
pub rises : (rows : List Shown) → IsSorted shown_cmp rows → IsDistinct (λ a b. is_pair (pair_of a) (pair_of b)) rows → IsStrictlySortedBy shown_cmp rows
unfolding IsStrictlySortedBy
rises [] up apart = tt
rises (r ∷ rows) up apart = sorted_from_all_adjacent (on_total pair_of pair_total) (r ∷ rows) r (λ k lt.
    rises_step (pair_of (get_or (r ∷ rows) k r)) (pair_of (get_or (r ∷ rows) (k + 1) r)) (up k r (omega arith) lt) (apart_from_distinct (λ a b. is_pair (pair_of a) (pair_of b)) (r ∷ rows) k (k + 1) r apart (omega arith) lt))

pub rises_pairs : (rows : List Shown) → IsStrictlySortedBy shown_cmp rows → IsStrictlySortedBy pair_cmp (pairs_of rows)
unfolding IsStrictlySortedBy
rises_pairs [] h = tt
rises_pairs (r ∷ rows) h = (heads r rows h.0, rises_pairs rows h.1)
  where
    heads : (r : Shown) (rows : List Shown) → AllByRecursion (λ y. shown_cmp r y ≡ Less) rows → AllByRecursion (λ p. pair_cmp (pair_of r) p ≡ Less) (pairs_of rows)
    heads r [] h = tt
    heads r (x ∷ rows) h = (h.0, heads r rows h.1)

-- ---- rows picked from entries
filter_all : (P : Pair → Type 0) (t : Pair → Bool) (ps : List Pair) → AllByRecursion P ps → AllByRecursion P (filter t ps)
filter_all P t [] h = h
filter_all P t (p ∷ ps) h = by (t p) (filter_all P t ps h.1)
  where
    by : (b : Bool) → AllByRecursion P (filter t ps) → AllByRecursion P (cond b (p ∷ filter t ps) (filter t ps))
    by true rest = (h.0, rest)
    by false rest = rest

pub filter_apart : (t : Pair → Bool) (ps : List Pair) → IsDistinct is_pair ps → IsDistinct is_pair (filter t ps)
unfolding IsDistinct
filter_apart t [] h = h
filter_apart t (p ∷ ps) h = by (t p) (filter_apart t ps h.1) (filter_all (λ y. is_pair p y ≡ false) t ps h.0)
  where
    by : (b : Bool) → IsDistinct is_pair (filter t ps) → AllByRecursion (λ y. is_pair p y ≡ false) (filter t ps) → IsDistinct is_pair (cond b (p ∷ filter t ps) (filter t ps))
    by true rest head = (head, rest)
    by false rest head = rest

abbrev pub swapped : List (List ℕ × ℤ) → List Pair
swapped rows = map (λ e. (e.1, e.0)) rows

abbrev pub key_bytes : List Entry → List (List ℕ)
key_bytes es = map (λ (e : Entry). e.0) es

distinct_bytes : (es : List Entry) → IsDistinct same_bytes (keys_of es) → IsDistinct bytes_eq (key_bytes es)
unfolding IsDistinct
distinct_bytes [] d = d
distinct_bytes (e ∷ es) d = IsDistinct-cons bytes_eq e.0 (key_bytes es) (heads e.0 es (IsDistinct-head same_bytes e.0 (keys_of es) d)) (distinct_bytes es (IsDistinct-tail same_bytes e.0 (keys_of es) d))
  where
    heads : (x : List ℕ) (es : List Entry) → AllByRecursion (λ y. same_bytes x y ≡ false) (keys_of es) → AllByRecursion (λ k. bytes_eq x k ≡ false) (key_bytes es)
    heads x [] h = h
    heads x (e ∷ es) h = (h.0, heads x es h.1)

entries_apart : (es : List Entry) → IsDistinct bytes_eq (key_bytes es) → IsDistinct is_pair (entry_pairs es)
unfolding IsDistinct
entries_apart [] h = h
entries_apart (e ∷ es) h = (heads e es h.0, entries_apart es h.1)
  where
    heads : (e : Entry) (es : List Entry) → AllByRecursion (λ k. bytes_eq e.0 k ≡ false) (key_bytes es) → AllByRecursion (λ p. is_pair (current_score e.1, e.0) p ≡ false) (entry_pairs es)
    heads e [] h = h
    heads e (x ∷ es) h = (is_pair_by (current_score e.1, e.0) (current_score x.1) x.0 ∙ ap (λ b. is_eq (int_cmp (current_score e.1) (current_score x.1)) && b) h.0 ∙ and_false (is_eq (int_cmp (current_score e.1) (current_score x.1))), heads e es h.1)

pub rows_apart : (rows : List Shown) → IsDistinct is_pair (pairs_of rows) → IsDistinct (λ a b. is_pair (pair_of a) (pair_of b)) rows
unfolding IsDistinct
rows_apart [] h = h
rows_apart (r ∷ rows) h = (heads r rows h.0, rows_apart rows h.1)
  where
    heads : (r : Shown) (rows : List Shown) → AllByRecursion (λ p. is_pair (pair_of r) p ≡ false) (pairs_of rows) → AllByRecursion (λ y. is_pair (pair_of r) (pair_of y) ≡ false) rows
    heads r [] h = h
    heads r (x ∷ rows) h = (h.0, heads r rows h.1)

swap_bytes : (es : List Entry) → swapped (rows_by current_score es) ≡ entry_pairs es
swap_bytes [] = refl
swap_bytes (e ∷ es) = ap (λ ps. (current_score e.1, e.0) ∷ ps) (swap_bytes es)

keys_by_bytes : (es : List Entry) → key_bytes es ≡ keys_of (rows_by current_score es)
keys_by_bytes [] = refl
keys_by_bytes (e ∷ es) = ap (λ ks. e.0 ∷ ks) (keys_by_bytes es)

lookup_bytes : (es : List Entry) (q : List ℕ) → lookup (bytes_eq q) (rows_by current_score es) ≡ option_map current_score (slot_at es q)
lookup_bytes [] q = refl
lookup_bytes (e ∷ es) q = ap (cond (bytes_eq q e.0) (Some (current_score e.1))) (lookup_bytes es q) ∙ by (bytes_eq q e.0)
  where
    by : (b : Bool) → cond b (Some (current_score e.1)) (option_map current_score (slot_at es q)) ≡ option_map current_score (cond b (Some e.1) (slot_at es q))
    by true = refl
    by false = refl

has_of_entries : (es : List Entry) (q : Pair) → IsDistinct bytes_eq (key_bytes es) → list_any (is_pair q) (entry_pairs es) ≡ list_any (is_pair q) (pairs (members_by current_score es))
has_of_entries es q apart =
    ap (list_any (is_pair q)) (sym (swap_bytes es)) ∙ has_pair (rows_by current_score es) q (subst (IsDistinct bytes_eq) (keys_by_bytes es) apart)
    ∙ ap (λ r. is_same r q.0) (lookup_bytes es q.1 ∙ sym (get_members current_score es q.1)) ∙ sym (has_of_pairs (members_by current_score es) q)

all_pass : (ps : List Pair) → filter (λ p. true) ps ≡ ps
all_pass [] = refl
all_pass (p ∷ ps) = ap (λ l. p ∷ l) (all_pass ps)

-- the empty set has no pair
pub whole_empty : whole fin.empty ≡ []
unfolding IsStrictlySortedBy
whole_empty = sym (listing_is (λ _. true) fin.empty [] tt (λ q.
    sym (ap (list_any (is_pair q)) (all_pass (pairs fin.empty)) ∙ has_of_pairs fin.empty q ∙ ap (λ (o : Option ℤ). is_same o q.0) (fin.get-empty bytes_cmp q.1))))

-- the pairs of entries, sorted, are the whole listing
pub sorted_is_whole : (es : List Entry) (rows sorted : List Shown) → IsDistinct same_bytes (keys_of es) → pairs_of rows ≡ entry_pairs es → IsPermutation rows sorted → IsSorted shown_cmp sorted
    → pairs_of sorted ≡ whole (members_by current_score es)
sorted_is_whole es rows sorted apart is moved up =
    let bytes_apart = distinct_bytes es apart in
    let pairs_apart : IsDistinct is_pair (pairs_of rows) = subst (IsDistinct is_pair) (sym is) (entries_apart es bytes_apart) in
    let E : Shown → Shown → Bool = λ a b. is_pair (pair_of a) (pair_of b) in
    let sorted_apart_rows : IsDistinct E sorted = IsDistinct-IsPermutation E (λ x y. (eq_by_cmp_equiv pair_total).symm (pair_of x) (pair_of y)) rows sorted moved (rows_apart rows pairs_apart) in
    listing_is (λ _. true) (members_by current_score es) (pairs_of sorted) (rises_pairs sorted (rises sorted up sorted_apart_rows)) (λ q.
    list_any-IsPermutation_back q ∙ ap (list_any (is_pair q)) is ∙ has_of_entries es q bytes_apart ∙ ap (list_any (is_pair q)) (sym (all_pass (pairs (members_by current_score es)))))
  where
    list_any-IsPermutation_back : (q : Pair) → list_any (is_pair q) (pairs_of sorted) ≡ list_any (is_pair q) (pairs_of rows)
    list_any-IsPermutation_back q = sym (list_any-IsPermutation (is_pair q) (pairs_of rows) (pairs_of sorted) (IsPermutation-map pair_of rows sorted moved))

-- as many pairs as marks
pub len_marks : (ps : List Pair) → IsDistinct is_pair ps → fin.len (fin.from_entries {R = pair_cmp} (marks ps)) ≡ length ps
unfolding IsDistinct
len_marks [] d = fin.len-empty pair_cmp (Unit {0})
len_marks (p ∷ ps) d =
    fin.len-insert pair_total (fin.from_entries (marks ps)) p tt
    ∙ ap (λ o. cond (is_some o) (fin.len (fin.from_entries {R = pair_cmp} (marks ps))) (fin.len (fin.from_entries {R = pair_cmp} (marks ps)) + 1))
    (fin.get-from_entries pair_total (marks ps) p ∙ find_marks p ps ∙ ap (λ b. cond b (Some tt) None) (none_like p ps d.0))
    ∙ ap (λ n. n + 1) (len_marks ps d.1) ∙ omega arith
  where
    none_like : (p : Pair) (ps : List Pair) → AllByRecursion (λ y. is_pair p y ≡ false) ps → list_any (is_pair p) ps ≡ false
    none_like p [] h = refl
    none_like p (x ∷ ps) h = ap (λ b. b || list_any (is_pair p) ps) h.0 ∙ none_like p ps h.1

entry_pairs_step : (es : List Entry) (i : ℕ) (e : Entry) → slice_get es i ≡ Some e → entry_pairs (drop i es) ≡ (current_score e.1, e.0) ∷ entry_pairs (drop (suc i) es)
entry_pairs_step [] i e h = cc
entry_pairs_step (x ∷ es) zero e h =
    let same : x ≡ e = cc in
    ap (λ (y : Entry). (current_score y.1, y.0) ∷ entry_pairs es) same
entry_pairs_step (x ∷ es) (suc i) e h = entry_pairs_step es i e h

-- a loop's step
pub rows_step : (es : List Entry) (i : ℕ) (e : Entry) (done more : List Shown) (x : Shown) → slice_get es i ≡ Some e → pair_of x ≡ (current_score e.1, e.0) → more ≡ done ++ x ∷ []
    → pairs_of done ++ entry_pairs (drop i es) ≡ entry_pairs es → pairs_of more ++ entry_pairs (drop (i + 1) es) ≡ entry_pairs es
rows_step es i e done more x at same pushed all =
    let rest = entry_pairs (drop (suc i) es) in
    ap (λ (l : List Shown). pairs_of l ++ entry_pairs (drop (i + 1) es)) pushed
    ∙ ap (λ l. l ++ entry_pairs (drop (i + 1) es)) (map-append pair_of done (x ∷ []))
    ∙ append_assoc (pairs_of done) (pair_of x ∷ []) (entry_pairs (drop (i + 1) es))
    ∙ ap (λ j. pairs_of done ++ (pair_of x ∷ entry_pairs (drop j es))) (add-one i)
    ∙ ap (λ (p : Pair). pairs_of done ++ (p ∷ rest)) same
    ∙ ap (λ l. pairs_of done ++ l) (sym (entry_pairs_step es i e at)) ∙ all
