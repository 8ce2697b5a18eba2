-- A set without the members of a range.
use Rattle.std.proofs.Common.{◌≡◌, ℕ, ◌+◌, ◌<◌, ◌≤◌, ℤ, Bool, true, false, cond, not, nat_lt, ◌&&◌, List, [], ◌∷◌, filter, length, count_by, drop, get_or, suc, Option, None, Some, refl, sym, ap, ◌∙◌, arith, add-one, drop-cons, true≢false}
use Rattle.std.specs.Prelude.{T}
use Rattle.std.specs.Ordering.{is_lt, is_eq}
use Rattle.std.specs.FinMap as fin
use Rattle.std.specs.FinMap.{is_sorted}
use Rattle.std.specs.FinMap.Entries.{below_all}
use Rattle.std.proofs.lemmas.Cmp.{int_cmp_total, tied_itself}
use Rattle.score_bounds.specs.declared.ranges_and_cuts.Range.{Range}
use Rattle.score_bounds.specs.RangesAndCuts.{is_in}
use Rattle.crack_kernel.specs.RowBag.{IsSubBag, SameBag, Test}
use Rattle.ripple_column.specs.Content.{ColumnState, Holds, content_count, has_score_in}
use Rattle.ripple_column.proofs.CallerLemmas.{count_all}
use Rattle.zset_core.specs.SortedSet.{Members, Pair, bytes_cmp, names_of, pairs}
use Rattle.zset_core.specs.Semantics.{remove_all, without_range}
use Rattle.sorted_sets.specs.Plan.{without_given}
use Rattle.sorted_sets.specs.ChangeCounts.{IsOutline}
use Rattle.sorted_sets.proofs.Tests.{both, first, second}
use Rattle.sorted_sets.proofs.Bridge.{exact, total}
use Rattle.sorted_sets.proofs.Order.{has_of_pairs, is_pair, is_same, swapped}
use Rattle.sorted_sets.proofs.ListingLaws.{is_score, tied}
use Rattle.sorted_sets.proofs.Bags.{count_cons, count_had, count_pairs, count_remove, one}
use Rattle.sorted_sets.proofs.RangeRows.{any_count, count_filter, positive}
use Rattle.sorted_sets.proofs.Outlines.{removed_outline, within_removed}

-- ---- what is left of a set
below_left : (t : List ℕ × ℤ → Bool) (x : List ℕ) (es : List (List ℕ × ℤ)) → T (below_all bytes_cmp x es) → T (below_all bytes_cmp x (filter t es))
below_left t x [] h = tt
below_left t x (e ∷ es) h = by (t e) (below_left t x es (second (is_lt (bytes_cmp x e.0)) (below_all bytes_cmp x es) h))
  where
    by : (b : Bool) → T (below_all bytes_cmp x (filter t es)) → T (below_all bytes_cmp x (cond b (e ∷ filter t es) (filter t es)))
    by true rest = both (is_lt (bytes_cmp x e.0)) (below_all bytes_cmp x (filter t es)) (first (is_lt (bytes_cmp x e.0)) (below_all bytes_cmp x es) h) rest
    by false rest = rest

sorted_left : (t : List ℕ × ℤ → Bool) (es : List (List ℕ × ℤ)) → T (is_sorted bytes_cmp es) → T (is_sorted bytes_cmp (filter t es))
sorted_left t [] h = tt
sorted_left t (e ∷ es) h = by (t e) (sorted_left t es (second (below_all bytes_cmp e.0 es) (is_sorted bytes_cmp es) h))
  where
    by : (b : Bool) → T (is_sorted bytes_cmp (filter t es)) → T (is_sorted bytes_cmp (cond b (e ∷ filter t es) (filter t es)))
    by true rest = both (below_all bytes_cmp e.0 (filter t es)) (is_sorted bytes_cmp (filter t es)) (below_left t e.0 es (first (below_all bytes_cmp e.0 es) (is_sorted bytes_cmp es) h)) rest
    by false rest = rest

entries_left : (range : Range) (m : Members) → fin.entries (without_range range m) ≡ filter (λ e. not (is_in range e.1)) (fin.entries m)
unfolding without_range
entries_left range m =
    let es : List (List ℕ × ℤ) = filter (λ e. not (is_in range e.1)) (fin.entries m) in
    let up : T (is_sorted bytes_cmp es) = sorted_left (λ e. not (is_in range e.1)) (fin.entries m) (fin.entries_sorted m) in
    ap fin.entries (fin.same_map total exact (fin.from_entries es) (fin.from_sorted es) (λ q. fin.get-from_entries total es q ∙ sym (fin.get-from_sorted bytes_cmp es q up)))
    ∙ fin.entries-from_sorted bytes_cmp es up

swapped_left : (t : ℤ → Bool) (es : List (List ℕ × ℤ)) → swapped (filter (λ e. t e.1) es) ≡ filter (λ p. t p.0) (swapped es)
swapped_left t [] = refl
swapped_left t (e ∷ es) = by (t e.1) (swapped_left t es)
  where
    by : (b : Bool) → swapped (filter (λ e. t e.1) es) ≡ filter (λ p. t p.0) (swapped es)
        → swapped (cond b (e ∷ filter (λ e. t e.1) es) (filter (λ e. t e.1) es)) ≡ cond b ((e.1, e.0) ∷ filter (λ p. t p.0) (swapped es)) (filter (λ p. t p.0) (swapped es))
    by true rest = ap (λ (ps : List Pair). (e.1, e.0) ∷ ps) rest
    by false rest = rest

-- the pairs in the range, and the others
abbrev pub inside : Range → Members → List Pair
inside range m = filter (λ p. is_in range p.0) (pairs m)

pub pairs_left : (range : Range) (m : Members) → pairs (without_range range m) ≡ filter (λ p. not (is_in range p.0)) (pairs m)
unfolding pairs
pairs_left range m = ap swapped (entries_left range m) ∙ swapped_left (λ z. not (is_in range z)) (fin.entries m)

parted : (p t : Test) (xs : List Pair) → count_by p (filter (λ x. not (t x)) xs) + count_by p (filter t xs) ≡ count_by p xs
parted p t [] = refl
parted p t (x ∷ xs) = by (t x) (parted p t xs)
  where
    by : (b : Bool) → count_by p (filter (λ x. not (t x)) xs) + count_by p (filter t xs) ≡ count_by p xs
        → count_by p (cond (not b) (x ∷ filter (λ x. not (t x)) xs) (filter (λ x. not (t x)) xs)) + count_by p (cond b (x ∷ filter t xs) (filter t xs)) ≡ count_by p (x ∷ xs)
    by true rest = omega (arith, rest, count_cons p x (filter t xs), count_cons p x xs)
    by false rest = omega (arith, rest, count_cons p x (filter (λ x. not (t x)) xs), count_cons p x xs)

count_left : (range : Range) (m : Members) (p : Test) → count_by p (pairs (without_range range m)) + count_by p (inside range m) ≡ count_by p (pairs m)
count_left range m p = ap (λ (ps : List Pair). count_by p ps + count_by p (inside range m)) (pairs_left range m) ∙ parted p (λ x. is_in range x.0) (pairs m)

-- a column whose rows of the range left holds what is left of the set
pub Holds-left : (c c' : ColumnState) (m : Members) (range : Range) → Holds c (pairs m) → ((p : Test) → content_count p c' ≡ content_count (λ r. p r && not (has_score_in range r)) c) → Holds c' (pairs (without_range range m))
Holds-left c c' m range holds gone p =
    gone p ∙ holds (λ r. p r && not (is_in range r.0)) ∙ count_filter p (λ r. not (is_in range r.0)) (pairs m) ∙ ap (count_by p) (sym (pairs_left range m))

-- no more members are left than there were
pub len_removed : (m : Members) (names : List (List ℕ)) → fin.len (remove_all m names) ≤ fin.len m
len_removed m [] = omega arith
len_removed m (k ∷ ks) = omega (arith, len_removed (fin.remove m k) ks, count_remove (λ r. true) m k, count_pairs m, count_pairs (fin.remove m k))

pub len_without_given : (range : Option Range) (m : Members) → fin.len (without_given range m) ≤ fin.len m
len_without_given None m = omega arith
len_without_given (Some range) m = omega (arith, count_left range m (λ r. true), count_pairs m, count_pairs (without_range range m))

-- ---- sets by the bags of their pairs
same_scores : (a b : Option ℤ) → ((s : ℤ) → is_same a s ≡ is_same b s) → a ≡ b
same_scores None None h = refl
same_scores None (Some y) h = absurd (true≢false (sym (h y ∙ ap is_eq (tied_itself int_cmp_total y))))
same_scores (Some x) b h = sym (is_score b x (sym (h x) ∙ ap is_eq (tied_itself int_cmp_total x)))

-- sets with the same pairs are one set
same_pairs : (m n : Members) → SameBag (pairs m) (pairs n) → m ≡ n
same_pairs m n same = fin.same_map total exact m n (λ q. same_scores (fin.get m q) (fin.get n q) (λ s. at (s, q)))
  where
    at : (x : Pair) → is_same (fin.get m x.1) x.0 ≡ is_same (fin.get n x.1) x.0
    at x = sym (has_of_pairs m x) ∙ any_count (is_pair x) (pairs m) ∙ ap (nat_lt 0) (same (is_pair x)) ∙ sym (any_count (is_pair x) (pairs n)) ∙ has_of_pairs n x

-- ---- members taken out by their rows
-- a row that is among the pairs tells the score of its member
score_of_row : (m : Members) (x : Pair) (rows : List Pair) → IsSubBag (x ∷ rows) (pairs m) → fin.get m x.1 ≡ Some x.0
score_of_row m x rows among =
    let self : cond {A = ℕ} (is_pair x x) 1 0 ≡ 1 = ap (λ (b : Bool). cond {A = ℕ} b 1 0) (tied x) in
    let some : 0 < count_by (is_pair x) (pairs m) = omega (arith, self, count_cons (is_pair x) x rows, among (is_pair x)) in
    is_score (fin.get m x.1) x.0 (sym (has_of_pairs m x) ∙ any_count (is_pair x) (pairs m) ∙ positive (count_by (is_pair x) (pairs m)) some)

count_removed : (m : Members) (rows : List Pair) → IsSubBag rows (pairs m) → (p : Test) → count_by p (pairs (remove_all m (names_of rows))) + count_by p rows ≡ count_by p (pairs m)
count_removed m [] among p = omega arith
count_removed m (x ∷ rows) among p =
    omega (arith, count_removed (fin.remove m x.1) rows (λ t. omega (arith, among t, count_cons t x rows, less t)) p, less p, count_cons p x rows)
  where
    less : (t : Test) → count_by t (pairs (fin.remove m x.1)) + one t x ≡ count_by t (pairs m)
    less t = ap (λ (o : Option ℤ). count_by t (pairs (fin.remove m x.1)) + count_had t x.1 o) (sym (score_of_row m x rows among)) ∙ count_remove t m x.1

-- the members of the rows of a range are those that leave with it
pub removed_rows : (range : Range) (m : Members) (rows : List Pair) → SameBag rows (inside range m) → remove_all m (names_of rows) ≡ without_range range m
removed_rows range m rows bag =
    same_pairs (remove_all m (names_of rows)) (without_range range m) (λ p. omega (arith, count_removed m rows (λ t. omega (arith, bag t, count_left range m t)) p, count_left range m p, bag p))

pub removed_inside : (range : Range) (m : Members) → remove_all m (names_of (inside range m)) ≡ without_range range m
removed_inside range m = removed_rows range m (inside range m) (λ p. refl)

nothing_counted : (rows : List Pair) → length rows ≡ 0 → (p : Test) → count_by p rows ≡ 0
nothing_counted [] h p = refl
nothing_counted (x ∷ rows) h p = absurd (omega (arith, h))

-- the outline of a removal, by the rows of the range
pub range_outline : (range : Range) (m : Members) (rows : List Pair) (count : ℕ) → SameBag rows (inside range m) → count ≡ length rows
    → IsOutline (record { added = 0; removed = count; changed = nat_lt 0 count }) m (without_range range m)
range_outline range m rows count bag is =
    removed_outline m (without_range range m) count (λ q there. within_removed m (names_of rows) q (ap (λ (n : Members). fin.contains_key n q) (removed_rows range m rows bag) ∙ there))
    (omega (arith, is, count_all rows, bag (λ r. true), count_left range m (λ r. true), count_pairs m, count_pairs (without_range range m)))
    (λ none. same_pairs (without_range range m) m (λ p. omega (arith, nothing_counted rows (sym is ∙ none) p, bag p, count_left range m p)))

-- one row of those that leave
pub remove_row_step : (m : Members) (rows : List Pair) (i : ℕ) (row : Pair) → i < length rows → row ≡ get_or rows i row → remove_all m (names_of (drop i rows)) ≡ remove_all (fin.remove m row.1) (names_of (drop (i + 1) rows))
remove_row_step m rows i row within is =
    ap (λ (l : List Pair). remove_all m (names_of l)) (drop-cons rows i row within) ∙ ap (λ (x : Pair). remove_all (fin.remove m x.1) (names_of (drop (suc i) rows))) (sym is)
    ∙ ap (λ j. remove_all (fin.remove m row.1) (names_of (drop j rows))) (sym (add-one i))
