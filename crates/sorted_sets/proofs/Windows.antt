-- Windows of a listing: in order, a part by its ranks is the listing between them. The pieces of a column are such parts.
use Rattle.std.proofs.Common.{◌≡◌, ◌⊎◌, ℕ, cond, map, Option, is_some, ◌+◌, ◌-◌, ◌<◌, ◌≤◌, ◌<ℤ◌, ◌≤ℤ◌, ℤ, pos, Bool, true, false, nat_lt, ◌||◌, List, [], ◌∷◌, ◌++◌, length, take, drop, get_or, filter, All, Contains, Any, count_by, IsPermutation, inl, inr, refl, sym, ap, subst, ◌∙◌, arith, append_assoc, take_at, drop_at, drop-drop, take-append-drop, take-take, is_lt, Ordering, Less, Equal, Greater}
use Rattle.std.specs.Prelude.{slice_range, T}
use Rattle.std.specs.Ordering.{int_cmp, ordering_then, MatchOrdering}
use Rattle.std.specs.List.{AllByRecursion, IsDistinct, list_any, between}
use Rattle.std.specs.List.Sorted.{IsStrictlySortedBy, IsSorted, IsNonDecreasingBy}
use Rattle.std.specs.FinMap as fin
use Rattle.std.specs.FinMap.{is_sorted}
use Rattle.std.specs.FinMap.Entries.{below_all, is_some-find}
use Rattle.std.specs.Cmp.{eq_by_cmp_equiv}
use Rattle.std.proofs.lemmas.Bool.{cases_lt}
use Rattle.std.proofs.lemmas.Bool.Decides.{nat_tests}
use Rattle.std.proofs.lemmas.Cmp.{int_ranked}
use Rattle.std.proofs.lemmas.Int.{ints}
use Rattle.std.proofs.lemmas.List.{length-map, drop-take}
use Rattle.std.proofs.lemmas.List.Edits.{length-between, get_or-between, between_none}
use Rattle.std.proofs.lemmas.List.Elements.{All-contains}
use Rattle.std.proofs.lemmas.List.Folds.{list_any-append}
use Rattle.std.proofs.lemmas.List.Sums.{sum_by-append}
use Rattle.std.proofs.lemmas.List.Sorted.{IsPermutation-refl, sum_by-IsPermutation}
use Rattle.std.proofs.lemmas.Map.Views.{Contains-from_any}
use Rattle.crack_kernel.specs.RowBag.{Test, SameBag}
use Rattle.crack_kernel.specs.PartedRows.{IsBelow, IsFrom, IsParted}
use Rattle.crack_kernel.specs.PivotList.{ObeysPivots}
use Rattle.crack_kernel.proofs.PivotOrder.{IsRising-le}
use Rattle.sorted_sets.proofs.Tests.{first, second}
use Rattle.zset_core.specs.SortedSet.{Members, Pair, bytes_cmp, pair_cmp, pairs, marks, listing}
use Rattle.sorted_sets.specs.BorrowedListingPairs.{Shown, pairs_of, shown_cmp}
use Rattle.sorted_sets.specs.WindowPieces.{ComesBefore, HasLeast, IsPart, IsPieceStart, IsPieceEnd}
use Rattle.sorted_sets.proofs.Order.{is_pair, is_equal, pair_total, listing_is, rises, rises_pairs, rises_step, rows_apart, filter_apart, len_marks, pairs_apart, keys_marks}
use Rattle.zset_core.specs.Semantics.{apply_limit}
use Rattle.zset_commands.specs.declared.limit.Limit.{Limit}
use Rattle.sorted_sets.proofs.RangeRows.{any_count, count_once, apart_once, length_listing}
use Rattle.sorted_sets.proofs.LeastPairs.{IsPart-least}
use Rattle.sorted_sets.proofs.Ranks.{IsPart-inner, left_before, right_before, none_before, before_none}

-- ---- pairs in order
-- pairs in the order of a listing, once each
abbrev sorted_of : List Pair → List Pair
sorted_of ps = fin.keys (fin.from_entries {R = pair_cmp} (marks ps))

less : (o : Ordering) → T (is_lt o) → o ≡ Less
less Less h = refl
less Equal h = absurd h
less Greater h = absurd h

keys_below : (p : Pair) (es : List (Pair × Unit {0})) → T (below_all pair_cmp p es) → AllByRecursion (λ y. pair_cmp p y ≡ Less) (map (λ e. e.0) es)
keys_below p [] h = tt
keys_below p (e ∷ es) h = (less (pair_cmp p e.0) (first (is_lt (pair_cmp p e.0)) (below_all pair_cmp p es) h), keys_below p es (second (is_lt (pair_cmp p e.0)) (below_all pair_cmp p es) h))

keys_rise : (es : List (Pair × Unit {0})) → T (is_sorted pair_cmp es) → IsStrictlySortedBy pair_cmp (map (λ e. e.0) es)
unfolding IsStrictlySortedBy
keys_rise [] h = tt
keys_rise (e ∷ es) h = (keys_below e.0 es (first (below_all pair_cmp e.0 es) (is_sorted pair_cmp es) h), keys_rise es (second (below_all pair_cmp e.0 es) (is_sorted pair_cmp es) h))

sorted_rises : (ps : List Pair) → IsStrictlySortedBy pair_cmp (sorted_of ps)
sorted_rises ps = keys_rise (fin.entries (fin.from_entries {R = pair_cmp} (marks ps))) (fin.entries_sorted (fin.from_entries {R = pair_cmp} (marks ps)))

sorted_has : (q : Pair) (ps : List Pair) → list_any (is_pair q) (sorted_of ps) ≡ list_any (is_pair q) ps
sorted_has q ps =
    sym (is_some-find pair_cmp q (fin.entries (fin.from_entries {R = pair_cmp} (marks ps))))
    ∙ ap (λ (o : Option (Unit {0})). is_some o) (sym (fin.get-entries (fin.from_entries {R = pair_cmp} (marks ps)) q) ∙ fin.get-from_entries pair_total (marks ps) q)
    ∙ is_some-find pair_cmp q (marks ps) ∙ ap (list_any (is_pair q)) (keys_marks ps)

sorted_length : (ps : List Pair) → IsDistinct is_pair ps → length (sorted_of ps) ≡ length ps
sorted_length ps apart =
    length-map (fin.entries (fin.from_entries {R = pair_cmp} (marks ps))) (λ (e : Pair × Unit {0}). e.0)
    ∙ sym (fin.len-entries (fin.from_entries {R = pair_cmp} (marks ps))) ∙ len_marks ps apart

-- ---- rising lists in a row
-- each pair of xs rises to each of ys
abbrev RisesTo : List Pair → List Pair → Type 0
RisesTo xs ys = (x y : Pair) → list_any (is_pair x) xs ≡ true → list_any (is_pair y) ys ≡ true → pair_cmp x y ≡ Less

or_right : (a b : Bool) → b ≡ true → (a || b) ≡ true
or_right true b h = refl
or_right false b h = h

here : (x : Pair) (xs : List Pair) → list_any (is_pair x) (x ∷ xs) ≡ true
here x xs = ap (λ b. b || list_any (is_pair x) xs) ((eq_by_cmp_equiv pair_total).refl x)

all_there : (P : Pair → Type 0) (ys : List Pair) → ((y : Pair) → list_any (is_pair y) ys ≡ true → P y) → AllByRecursion P ys
all_there P [] all = tt
all_there P (y ∷ ys) all = (all y (here y ys), all_there P ys (λ z h. all z (or_right (is_pair z y) (list_any (is_pair z) ys) h)))

rising_join : (xs ys : List Pair) → IsStrictlySortedBy pair_cmp xs → IsStrictlySortedBy pair_cmp ys → RisesTo xs ys → IsStrictlySortedBy pair_cmp (xs ++ ys)
unfolding IsStrictlySortedBy
rising_join [] ys up up' rise = up'
rising_join (x ∷ xs) ys up up' rise =
    (heads xs up.0, rising_join xs ys up.1 up' (λ y z h k. rise y z (or_right (is_pair y x) (list_any (is_pair y) xs) h) k))
  where
    heads : (zs : List Pair) → AllByRecursion (λ y. pair_cmp x y ≡ Less) zs → AllByRecursion (λ y. pair_cmp x y ≡ Less) (zs ++ ys)
    heads [] h = all_there (λ y. pair_cmp x y ≡ Less) ys (λ y k. rise x y (here x xs) k)
    heads (z ∷ zs) h = (h.0, heads zs h.1)

positive : (p : Test) (xs : List Pair) → list_any p xs ≡ true → 0 < count_by p xs
positive p xs h =
    let some : nat_lt 0 (count_by p xs) ≡ true = sym (any_count p xs) ∙ h in
    grind (arith, nat_tests)

rises_to : (xs ys : List Pair) → ComesBefore xs ys → ((q : Pair) → count_by (is_pair q) xs + count_by (is_pair q) ys ≤ 1) → RisesTo xs ys
rises_to xs ys before once x y h k =
    let at_x : Contains xs x = Contains-from_any is_equal x xs h in
    let at_y : Contains ys y = Contains-from_any is_equal y ys k in
    let up : is_lt (pair_cmp y x) ≡ false =
    All-contains (λ z. is_lt (pair_cmp z x) ≡ false) ys y (All-contains (λ w. All (λ z. is_lt (pair_cmp z w) ≡ false) ys) xs x before at_x) at_y in
    rises_step x y up (apart (is_pair x y) refl)
  where
    apart : (b : Bool) → is_pair x y ≡ b → b ≡ false
    apart true same =
        let too : list_any (is_pair x) ys ≡ true = ap (λ (z : Pair). list_any (is_pair z) ys) (is_equal x y same) ∙ k in
        absurd (omega (arith, once x, positive (is_pair x) xs h, positive (is_pair x) ys too))
    apart false other = refl

count_parts : (p : Test) (xs ys zs : List Pair) → count_by p (xs ++ ys ++ zs) ≡ count_by p xs + count_by p ys + count_by p zs
count_parts p xs ys zs =
    sum_by-append (λ z. cond {A = ℕ} (p z) 1 0) (xs ++ ys) zs ∙ ap (λ (n : ℕ). n + count_by p zs) (sum_by-append (λ z. cond {A = ℕ} (p z) 1 0) xs ys)

any_parts : (p : Test) (xs ys zs : List Pair) → list_any p (xs ++ ys ++ zs) ≡ (list_any p xs || list_any p ys || list_any p zs)
any_parts p xs ys zs = list_any-append p (xs ++ ys) zs ∙ ap (λ b. b || list_any p zs) (list_any-append p xs ys)

slice_mid : {X : Type 0} (xs ys zs : List X) (s e : ℕ) → length xs ≡ s → length xs + length ys ≡ e → slice_range (xs ++ ys ++ zs) s e ≡ ys
slice_mid xs ys zs s e at long =
    ap (take (e - s)) (ap (drop s) (append_assoc xs ys zs) ∙ drop_at xs (ys ++ zs) s at) ∙ take_at ys zs (e - s) (omega (arith, at, long))

either : (a b : Bool) {G : Type 0} → (a || b) ≡ true → (a ≡ true → G) → (b ≡ true → G) → G
either true b h f g = f refl
either false b h f g = g h

-- in order, a part by its ranks is the listing between them
pub window_listing : (t : ℤ → Bool) (m : Members) (rows : List Pair) (start end : ℕ) (window : List Shown) → SameBag rows (filter (λ p. t p.0) (pairs m)) → IsPart rows start end (pairs_of window)
    → IsSorted shown_cmp window → pairs_of window ≡ slice_range (listing t m) start end
window_listing t m rows start end window bag part up =
    let L : List Pair = filter (λ p. t p.0) (pairs m) in
    let F : List Pair = part.front in
    let W : List Pair = pairs_of window in
    let B : List Pair = part.back in
    let F' : List Pair = sorted_of F in
    let B' : List Pair = sorted_of B in
    let same : (p : Test) → count_by p (F ++ W ++ B) ≡ count_by p L = λ p. sum_by-IsPermutation (λ z. cond {A = ℕ} (p z) 1 0) rows (F ++ W ++ B) part.together ∙ bag p in
    let once : (q : Pair) → count_by (is_pair q) F + count_by (is_pair q) W + count_by (is_pair q) B ≤ 1 =
    λ q. omega (arith, count_once q L (filter_apart (λ p. t p.0) (pairs m) (pairs_apart m)), same (is_pair q), count_parts (is_pair q) F W B) in
    let apart_F : IsDistinct is_pair F = apart_once F (λ q. omega (arith, once q)) in
    let apart_W : IsDistinct is_pair W = apart_once W (λ q. omega (arith, once q)) in
    let rise_W = rises_pairs window (rises window up (rows_apart window apart_W)) in
    let front_part : RisesTo F W = rises_to F W part.front_part (λ q. omega (arith, once q)) in
    let front_back : RisesTo F B = rises_to F B part.front_back (λ q. omega (arith, once q)) in
    let part_back : RisesTo W B = rises_to W B part.part_back (λ q. omega (arith, once q)) in
    let sorted_part : RisesTo F' W = λ x y h k. front_part x y (sym (sorted_has x F) ∙ h) k in
    let sorted_back : RisesTo (F' ++ W) B' = λ x y h k. either (list_any (is_pair x) F') (list_any (is_pair x) W) (sym (list_any-append (is_pair x) F' W) ∙ h)
    (λ f. front_back x y (sym (sorted_has x F) ∙ f) (sym (sorted_has y B) ∙ k)) (λ w. part_back x y w (sym (sorted_has y B) ∙ k)) in
    let rise = rising_join (F' ++ W) B' (rising_join F' W (sorted_rises F) rise_W sorted_part) (sorted_rises B) sorted_back in
    let alike : (q : Pair) → list_any (is_pair q) (F' ++ W ++ B') ≡ list_any (is_pair q) L = λ q.
    any_parts (is_pair q) F' W B' ∙ ap (λ b. b || list_any (is_pair q) W || list_any (is_pair q) B') (sorted_has q F)
    ∙ ap (λ b. list_any (is_pair q) F || list_any (is_pair q) W || b) (sorted_has q B) ∙ sym (any_parts (is_pair q) F W B)
    ∙ any_count (is_pair q) (F ++ W ++ B) ∙ ap (nat_lt 0) (same (is_pair q)) ∙ sym (any_count (is_pair q) L) in
    let long : length F' ≡ length F = sorted_length F apart_F in
    sym (slice_mid F' W B' start end (omega (arith, long, part.first)) (omega (arith, long, part.last)))
    ∙ ap (λ (l : List Pair). slice_range l start end) (listing_is t m (F' ++ W ++ B') rise alike)

-- ---- the pieces of a column
pub places_rise : (ps : List (ℤ × ℕ)) (rows : List Pair) → ObeysPivots ps rows → IsNonDecreasingBy (λ (p : ℤ × ℕ). p.1) ps
places_rise ps rows law k l e le lt =
    elim (cases_lt (get_or ps l e).1 (get_or ps k e).1) [
      | inl under ↦
          let q : ℕ = (get_or ps l e).1 in
          let in_k = law.parted k e (omega arith) in
          let in_l = law.parted l e lt in
          let k_in : (get_or ps k e).1 ≤ length rows = in_k.within in
          let x : Pair = get_or rows q (pos 0, []) in
          let low : x.0 <ℤ (get_or ps k e).0 = in_k.before q (pos 0, []) (omega arith) under in
          let high : (get_or ps l e).0 ≤ℤ x.0 = in_l.behind q (pos 0, []) (omega arith) (omega arith) in
          let up : (get_or ps k e).0 ≤ℤ (get_or ps l e).0 = IsRising-le ps k l e law.rising le lt in
          absurd (omega (arith, ints))
      | inr over ↦ over
    ]

lower_first : (x y : Pair) → x.0 <ℤ y.0 → is_lt (pair_cmp y x) ≡ false
lower_first x y up = by (int_cmp y.0 x.0) (int_ranked y.0 x.0 (int_cmp y.0 x.0) refl)
  where
    by : (o : Ordering) → MatchOrdering o (y.0 <ℤ x.0) (y.0 ≡ x.0) (x.0 <ℤ y.0) → is_lt (ordering_then o (bytes_cmp y.1 x.1)) ≡ false
    by Less under = absurd (omega (arith, ints, up, under))
    by Equal tie = absurd (omega (arith, ints, up, tie))
    by Greater over = refl

-- a place that parts the rows by score
cut_before : (rows : List Pair) (v : ℤ) (a k b : ℕ) → IsParted (IsBelow v) (IsFrom v) rows k → b ≤ length rows → ComesBefore (slice_range rows a k) (slice_range rows k b)
cut_before rows v a k b cut within i d lt j e un =
    let fits : k ≤ length rows = cut.within in
    let front : length (between a k rows) ≡ k - a = length-between rows a k cut.within in
    let back : length (between k b rows) ≡ b - k = length-between rows k b within in
    let x : get_or (between a k rows) i d ≡ get_or rows (a + i) d = get_or-between rows a k i d (omega arith) in
    let y : get_or (between k b rows) j e ≡ get_or rows (k + j) e = get_or-between rows k b j e (omega arith) in
    let low : (get_or rows (a + i) d).0 <ℤ v = cut.before (a + i) d (omega arith) (omega arith) in
    let high : v ≤ℤ (get_or rows (k + j) e).0 = cut.behind (k + j) e (omega arith) (omega arith) in
    rw (x, y) (lower_first (get_or rows (a + i) d) (get_or rows (k + j) e) (omega (arith, ints, low, high)))

range_split : {X : Type 0} (xs : List X) (a b c : ℕ) → a ≤ b → b ≤ c → slice_range xs a c ≡ slice_range xs a b ++ slice_range xs b c
range_split {X = X} xs a b c le le' =
    let ys : List X = drop a xs in
    let n : ℕ = b - a in
    let m : ℕ = c - b in
    let both : c - a ≡ n + m = omega arith in
    let at : a + n ≡ b = omega arith in
    ap (λ (k : ℕ). take k ys) both ∙ sym (take-append-drop n (take (n + m) ys))
    ∙ ap (λ (zs : List X). zs ++ drop n (take (n + m) ys)) (take-take n (n + m) ys (omega arith))
    ∙ ap (λ (zs : List X). take n ys ++ zs) (drop-take n m ys ∙ ap (take m) (drop-drop n a xs ∙ ap (λ (k : ℕ). drop k xs) at))

-- the place of a pivot parts the rows
parted_at : (pivots : List (ℤ × ℕ)) (rows : List Pair) (place : ℕ) → ObeysPivots pivots rows → Any (λ p. p.1 ≡ place) pivots → (v : ℤ) × IsParted (IsBelow v) (IsFrom v) rows place
parted_at pivots rows place law (k, p, lt, at, is) =
    (p.0, subst (λ (n : ℕ). IsParted (IsBelow p.0) (IsFrom p.0) rows n) is (subst (λ (q : ℤ × ℕ). IsParted (IsBelow q.0) (IsFrom q.0) rows q.1) at (law.parted k p lt)))

-- rows from one place to another before those behind: at an end of the range or at a pivot
ends_before : (pivots : List (ℤ × ℕ)) (rows : List Pair) (from low to : ℕ) → ObeysPivots pivots rows → to ≤ length rows → (low ≡ from) ⊎ Any (λ p. p.1 ≡ low) pivots
    → ComesBefore (slice_range rows from low) (slice_range rows low to)
ends_before pivots rows from low to law within (inl same) =
    subst (λ (xs : List Pair). ComesBefore xs (slice_range rows low to)) (sym (ap (λ (k : ℕ). between from k rows) same ∙ between_none rows from)) (none_before (slice_range rows low to))
ends_before pivots rows from low to law within (inr found) = let cut = parted_at pivots rows low law found in cut_before rows cut.0 from low to cut.1 within

ends_behind : (pivots : List (ℤ × ℕ)) (rows : List Pair) (low high to : ℕ) → ObeysPivots pivots rows → to ≤ length rows → (high ≡ to) ⊎ Any (λ p. p.1 ≡ high) pivots
    → ComesBefore (slice_range rows low high) (slice_range rows high to)
ends_behind pivots rows low high to law within (inl same) =
    subst (λ (xs : List Pair). ComesBefore (slice_range rows low high) xs) (sym (ap (λ (k : ℕ). between high k rows) (sym same) ∙ between_none rows high)) (before_none (slice_range rows low high))
ends_behind pivots rows low high to law within (inr found) = let cut = parted_at pivots rows high law found in cut_before rows cut.0 low high to cut.1 within

-- the pieces that a window touches are a part of the rows of the range
pub IsPart-pieces : (pivots : List (ℤ × ℕ)) (rows : List Pair) (from to first last low high : ℕ) → ObeysPivots pivots rows → first ≤ last → to ≤ length rows → IsPieceStart pivots from first low → IsPieceEnd pivots to last high
    → IsPart (slice_range rows from to) (low - from) (high - from) (slice_range rows low high)
IsPart-pieces pivots rows from to first last low high law order within start end =
    let F : List Pair = slice_range rows from low in
    let P : List Pair = slice_range rows low high in
    let B : List Pair = slice_range rows high to in
    let a : from ≤ low = start.low in
    let b : low ≤ first = start.high in
    let c : last ≤ high = end.low in
    let e : high ≤ to = end.high in
    let front : length F ≡ low - from = length-between rows from low (omega arith) in
    let mid : length P ≡ high - low = length-between rows low high (omega arith) in
    let behind : slice_range rows low to ≡ P ++ B = range_split rows low high to (omega arith) e in
    let split : slice_range rows from to ≡ F ++ P ++ B =
    range_split rows from low to a (omega arith) ∙ ap (λ (xs : List Pair). F ++ xs) behind ∙ sym (append_assoc F P B) in
    let first_cut : ComesBefore F (P ++ B) = subst (ComesBefore F) behind (ends_before pivots rows from low to law within start.stands) in record {
      front = F;
      back = B;
      together = subst (IsPermutation (slice_range rows from to)) split (IsPermutation-refl (slice_range rows from to));
      first = front;
      last = omega arith;
      front_part = left_before F P B first_cut;
      front_back = right_before F P B first_cut;
      part_back = ends_behind pivots rows low high to law within end.stands;
    }

-- ---- what LIMIT asks for
-- the window of the ranks that LIMIT asks for, among the pieces that it touches
pub limited_window : (t : ℤ → Bool) (m : Members) (limit : Option Limit) (pivots found : List (ℤ × ℕ)) (rows : List Pair) (shown window : List Shown) (from to start end low high : ℕ)
    → SameBag (slice_range rows from to) (filter (λ p. t p.0) (pairs m)) → ObeysPivots pivots rows → found ≡ pivots → from ≤ to → to ≤ length rows → start ≤ end → end ≤ to - from
    → ((ps : List Pair) → length ps ≡ to - from → apply_limit limit ps ≡ slice_range ps start end) → IsPieceStart found from (from + start) low → IsPieceEnd found to (from + end) high
    → HasLeast (slice_range rows low high) (length shown) (pairs_of shown) → IsPart (pairs_of shown) (from + start - low) (from + end - low) (pairs_of window) → IsSorted shown_cmp window
    → pairs_of window ≡ apply_limit limit (listing t m)
limited_window t m limit pivots found rows shown window from to start end low high bag law same order within rising fits ranks at_low at_high least part up =
    let range : List Pair = slice_range rows from to in
    let pieces : List Pair = slice_range rows low high in
    let at_start : IsPieceStart pivots from (from + start) low = subst (λ (ps : List (ℤ × ℕ)). IsPieceStart ps from (from + start) low) same at_low in
    let at_end : IsPieceEnd pivots to (from + end) high = subst (λ (ps : List (ℤ × ℕ)). IsPieceEnd ps to (from + end) high) same at_high in
    let outer : IsPart range (low - from) (high - from) pieces = IsPart-pieces pivots rows from to (from + start) (from + end) low high law (omega arith) within at_start at_end in
    let inner : IsPart pieces (from + start - low) (from + end - low) (pairs_of window) =
    IsPart-inner pieces 0 (length (pairs_of shown)) (from + start - low) (from + end - low) (from + start - low) (from + end - low) (pairs_of shown) (pairs_of window)
    (IsPart-least pieces (pairs_of shown) (length shown) least) part (omega arith) (omega arith) in
    let a : from ≤ low = at_start.low in
    let b : low ≤ from + start = at_start.high in
    let whole : IsPart range start end (pairs_of window) = IsPart-inner range (low - from) (high - from) (from + start - low) (from + end - low) start end pieces (pairs_of window) outer inner (omega arith) (omega arith) in
    window_listing t m range start end window bag whole up ∙ sym (ranks (listing t m) (length_listing t m range bag ∙ length-between rows from to within))

pub limited_nothing : (t : ℤ → Bool) (m : Members) (limit : Option Limit) (rows : List Pair) (from to start end : ℕ) → SameBag (slice_range rows from to) (filter (λ p. t p.0) (pairs m)) → to ≤ length rows → start ≡ end
    → ((ps : List Pair) → length ps ≡ to - from → apply_limit limit ps ≡ slice_range ps start end) → [] ≡ apply_limit limit (listing t m)
limited_nothing t m limit rows from to start end bag within none ranks =
    sym (ranks (listing t m) (length_listing t m (slice_range rows from to) bag ∙ length-between rows from to within) ∙ ap (λ (n : ℕ). between start n (listing t m)) (sym none) ∙ between_none (listing t m) start)
